-- When the thread of the ports wakes by itself.
use Rattle.std.specs.Prelude.{ℕ}

-- when something is due for which nobody wakes a worker, and when the thread wakes, in milliseconds
pub record AlarmValue : Type 0 where
  pub due : ℕ
  pub wakes : ℕ
