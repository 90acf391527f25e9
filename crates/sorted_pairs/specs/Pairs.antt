-- Pairs, and two numbers kept as one.
use Rattle.std.proofs.Common.{arith}
use Rattle.std.specs.Prelude.{◌≡◌, ℕ, ◌+◌, ◌*◌, ◌/◌, ◌%◌}
use Rattle.std.specs.Cmp.{IsTotalOrder, IsEquivalence}
use Rattle.std.specs.Ordering.{eq_by_cmp, nat_cmp, ordering_then}
use Rattle.std.specs.declared.cmp.Ordering.{Ordering}
use Rattle.std.proofs.Math.Nat.{div-add-mod}
use Rattle.std.proofs.lemmas.Cmp.{nat_cmp_total, on_total, then_total, eq_by_cmp_equiv}

-- by the first of a pair, and then by the second
abbrev pub pair_cmp : {A B : Type 0} → (A → A → Ordering) → (B → B → Ordering) → A × B → A × B → Ordering
pair_cmp R S p q = ordering_then (R p.0 q.0) (S p.1 q.1)

-- of two numbers
abbrev pub number_cmp : ℕ × ℕ → ℕ × ℕ → Ordering
number_cmp = pair_cmp nat_cmp nat_cmp

pub numbers_total : IsTotalOrder number_cmp
numbers_total = then_total (on_total (λ a. a.0) nat_cmp_total) (on_total (λ a. a.1) nat_cmp_total)

pub numbers_equiv : IsEquivalence (eq_by_cmp number_cmp)
numbers_equiv = eq_by_cmp_equiv numbers_total

-- a number comes back from its parts
pub back : (n s : ℕ) → n / s * s + n % s ≡ n
back n s = let e = div-add-mod n s in omega (arith, e)
