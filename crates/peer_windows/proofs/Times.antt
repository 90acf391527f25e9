-- The least of times.
use Rattle.std.proofs.Common.{◌≡◌, ℕ, ◌≤◌, List, [], ◌∷◌, ◌++◌, arith}
use Rattle.std.specs.Prelude.{min}
use Rattle.peer_windows.specs.Pauses.{never}
use Rattle.peer_windows.specs.Owners.{least}

-- none is later than what never comes
pub least_le : (times : List ℕ) → least times ≤ never
least_le [] = omega arith
least_le (time ∷ times) = omega (arith, least_le times)

pub least_append : (xs ys : List ℕ) → least (xs ++ ys) ≡ min (least xs) (least ys)
least_append [] ys = omega (arith, least_le ys)
least_append (x ∷ xs) ys = omega (arith, least_append xs ys)
