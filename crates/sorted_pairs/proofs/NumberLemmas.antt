-- Two numbers as one: it gives them back, and has their order.
use Rattle.std.proofs.Common.{◌≡◌, ℕ, ◌+◌, ◌*◌, ◌/◌, ◌%◌, ◌<◌, ◌≤◌, refl, sym, ap, ◌∙◌, arith}
use Rattle.std.specs.declared.cmp.Ordering.{Ordering}
use Rattle.std.specs.declared.cmp.Ordering.TheVariants.{Less, Equal, Greater}
use Rattle.std.specs.Ordering.{MatchOrdering, nat_cmp, ordering_then}
use Rattle.std.proofs.Math.Nat.{mod-lt, mul-le-mul_right}
use Rattle.std.proofs.lemmas.Bool.Decides.{nat_tests}
use Rattle.std.proofs.lemmas.Cmp.{ranked}
use Rattle.sorted_pairs.specs.Pairs.{number_cmp, back}

pub cmp_is : (a b : ℕ) (u : Ordering) → MatchOrdering u (a < b) (a ≡ b) (b < a) → nat_cmp a b ≡ u
cmp_is a b Less h = grind (arith, nat_tests)
cmp_is a b Equal h = grind (arith, nat_tests)
cmp_is a b Greater h = grind (arith, nat_tests)

-- the order by a higher digit, and then by a lower
pub digits : (s q r p t : ℕ) → r < s → t < s →
    nat_cmp (q * s + r) (p * s + t) ≡ ordering_then (nat_cmp q p) (nat_cmp r t)
digits s q r p t small low =
    elim (nat_cmp q p) as (λ u. MatchOrdering u (q < p) (q ≡ p) (p < q) →
    nat_cmp (q * s + r) (p * s + t) ≡ ordering_then u (nat_cmp r t)) [
      | Less ↦ λ h.
          let le : q + 1 ≤ p = omega (arith, h) in
          let m : (q + 1) * s ≤ p * s = mul-le-mul_right s le in
          cmp_is (q * s + r) (p * s + t) Less (omega (arith, m))
      | Equal ↦ λ h. ap (λ x. nat_cmp (x * s + r) (p * s + t)) h ∙ same p
      | Greater ↦ λ h.
          let le : p + 1 ≤ q = omega (arith, h) in
          let m : (p + 1) * s ≤ q * s = mul-le-mul_right s le in
          cmp_is (q * s + r) (p * s + t) Greater (omega (arith, m))
    ] (ranked q p (nat_cmp q p) refl)
  where
    same : (x : ℕ) → nat_cmp (x * s + r) (x * s + t) ≡ nat_cmp r t
    same x =
        elim (nat_cmp r t) as (λ v. MatchOrdering v (r < t) (r ≡ t) (t < r) → nat_cmp (x * s + r) (x * s + t) ≡ v) [
          | Less ↦ λ h. cmp_is (x * s + r) (x * s + t) Less (omega (arith, h))
          | Equal ↦ λ h. cmp_is (x * s + r) (x * s + t) Equal (omega (arith, h))
          | Greater ↦ λ h. cmp_is (x * s + r) (x * s + t) Greater (omega (arith, h))
        ] (ranked r t (nat_cmp r t) refl)

pub parts_cmp : (m n s : ℕ) → 0 < s → nat_cmp m n ≡ number_cmp (m / s, m % s) (n / s, n % s)
parts_cmp m n s some =
    (λ i. nat_cmp (sym (back m s) i) (sym (back n s) i))
    ∙ digits s (m / s) (m % s) (n / s) (n % s) (mod-lt m some) (mod-lt n some)
