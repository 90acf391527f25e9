-- Owners that have their turns one after another, beginning with any one.
use Rattle.std.proofs.Common.{◌≡◌, ℕ, ◌+◌, ◌-◌, ◌<◌, ◌≤◌, ◌⊎◌, inl, inr, arith}
use Rattle.std.proofs.lemmas.Bool.{cases_lt}

-- so many owners after the first, an owner has its turn
abbrev pub IsInTurn : ℕ → ℕ → ℕ → ℕ → Type 0
IsInTurn nodes first place owner = (first + place ≡ owner) ⊎ (first + place ≡ owner + nodes)

-- each has its turn
pub place_in_turn : (nodes first owner : ℕ) → first < nodes → owner < nodes →
    (place : ℕ) × (place < nodes) × IsInTurn nodes first place owner
place_in_turn nodes first owner some within =
    elim (cases_lt owner first) [
      | inl low ↦ (owner + nodes - first, omega (arith, low, within), inr (omega (arith, low, some)))
      | inr high ↦ (owner - first, omega (arith, high, within), inl (omega (arith, high)))
    ]

-- an owner is in turn once
pub one_place : (nodes first j k owner : ℕ) → j < nodes → k < nodes → IsInTurn nodes first j owner →
    IsInTurn nodes first k owner → j ≡ k
one_place nodes first j k owner small low one other =
    elim one [
      | inl here ↦ elim other [
        | inl same ↦ omega (arith, here, same)
        | inr next ↦ omega (arith, here, next, low)
      ]
      | inr round ↦ elim other [
        | inl same ↦ omega (arith, round, same, small)
        | inr next ↦ omega (arith, round, next)
      ]
    ]

-- and one owner at a time
pub one_owner : (nodes first place a b : ℕ) → a < nodes → b < nodes → IsInTurn nodes first place a →
    IsInTurn nodes first place b → a ≡ b
one_owner nodes first place a b small low one other =
    elim one [
      | inl here ↦ elim other [
        | inl same ↦ omega (arith, here, same)
        | inr next ↦ omega (arith, here, next, small)
      ]
      | inr round ↦ elim other [
        | inl same ↦ omega (arith, round, same, low)
        | inr next ↦ omega (arith, round, next)
      ]
    ]

-- behind the last one comes the one of number zero
pub next_in_turn : (nodes first place owner : ℕ) → owner < nodes → place + 1 < nodes →
    IsInTurn nodes first place owner → owner + 1 < nodes → IsInTurn nodes first (place + 1) (owner + 1)
next_in_turn nodes first place owner within more one below =
    elim one [
      | inl here ↦ inl (omega (arith, here))
      | inr round ↦ inr (omega (arith, round))
    ]

pub next_round : (nodes first place owner : ℕ) → first < nodes → owner < nodes → place + 1 < nodes →
    IsInTurn nodes first place owner → nodes ≤ owner + 1 → IsInTurn nodes first (place + 1) 0
next_round nodes first place owner some within more one last =
    elim one [
      | inl here ↦ inr (omega (arith, here, within, last))
      | inr round ↦ inr (omega (arith, round, within, last, more, some))
    ]
