-- Flags of the numbers that were given.
use Rattle.std.specs.Prelude.{◌≡◌, ℕ, zero, suc, ◌+◌, ◌<◌, ◌≤◌, Bool, true, false, List, slice_index_or}
use Rattle.std.specs.Prelude.{Option, Some, option_map, option_and_then}
use Rattle.byz_world.specs.declared.step.Step.TheVariants.{Give}
use Rattle.lab_scripts.specs.Labs.{Lab, with_number, after_doing, next_number}

-- the numbers whose flag is set
abbrev pub flagged : List Bool → (ℕ → Bool)
flagged flags = λ k. slice_index_or flags k false

-- each number from one on and below another was given
abbrev pub AreSet : (ℕ → Bool) → ℕ → ℕ → Type 0
AreSet given from end = (k : ℕ) → from ≤ k → k < end → given k ≡ true

-- no number from this one on was given
abbrev pub NoneFrom : (ℕ → Bool) → ℕ → Type 0
NoneFrom given first = (k : ℕ) → first ≤ k → given k ≡ false

-- so many numbers from this one on were given too
unfoldable pub with_many : (ℕ → Bool) → ℕ → ℕ → (ℕ → Bool)
with_many given first zero = given
with_many given first (suc count) = with_number (with_many given first count) (first + count)

-- so many times the least number that was not given was given, and something was left each time
unfoldable pub gave_on : ℕ → Lab → Option Lab
gave_on zero lab = Some lab
gave_on (suc count) lab =
    option_and_then (λ next. option_map (λ number. after_doing next (Give number)) (next_number next))
    (gave_on count lab)

abbrev pub GivesOn : Lab → ℕ → Lab → Type 0
GivesOn lab count after = gave_on count lab ≡ Some after
