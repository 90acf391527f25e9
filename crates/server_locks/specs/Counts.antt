-- What waits, and for how long.
use Rattle.std.specs.Prelude.{ℕ, ◌+◌, ◌-◌, nat_le, Bool, false, List, length, Option, Some, None}

-- how many of the frames that came don't wait: `before` waited, and `after` wait now
abbrev pub lost_of : List (List ℕ) → List (List ℕ) → List (List ℕ) → ℕ
lost_of before came after = length before + length came - length after

-- a connection that has taken no bytes since then, if there is such a time, is given up now
abbrev pub is_stuck : Option ℕ → ℕ → Bool
is_stuck None now = false
is_stuck (Some since) now = nat_le 5000 (now - since)
