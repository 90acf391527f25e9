-- When no hold is made.
use Rattle.std.specs.Prelude.{◌⊎◌, ◌≤◌, ℕ, Bool, IsTrue, Some}
use Rattle.node_lock.specs.Holds.{Held}
use Rattle.node_lock.specs.Seats.{Sitting}
use Rattle.node_lock.specs.Views.{IsHoldFault, node_count}
use Rattle.node_lock.specs.declared.locked.StepFault.{StepFault}
use Rattle.node_lock.specs.declared.receipt.Call.{Call}

-- the name is no node's, what was recorded has to be kept first, or the hold has a fault
abbrev pub IsNotHeld : Held → Bool → Sitting → ℕ → Call → Type 0
IsNotHeld held is_full seat me call =
    (node_count held ≤ me) ⊎ (IsTrue is_full ⊎ ((fault : StepFault) × IsHoldFault held seat (Some call) fault))
