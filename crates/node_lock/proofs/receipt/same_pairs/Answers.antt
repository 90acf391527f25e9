use Rattle.std.proofs.Common.{◌≡◌, ℕ, Bool, true, false, refl, ap, ◌∙◌}
use Rattle.std.specs.Prelude.{nat_eq, ◌&&◌}
use Rattle.std.specs.Bool.{Decides}
use Rattle.std.proofs.lemmas.Bool.Decides.{Decides-eqb}
use Rattle.std.proofs.lemmas.Slice.Eq.{slice_eq-Decides}
use Rattle.node_lock.proofs.receipt.same_pairs.Goals as goal

both : (a b : Bool) → a ≡ true → b ≡ true → (a && b) ≡ true
both true b p q = q
both false b p q = cc

parts : (a b : Bool) → (a && b) ≡ true → (a ≡ true) × (b ≡ true)
parts true b h = (refl, h)
parts false b h = cc

pair_eq-Decides : (x y : ℕ × ℕ) → Decides (nat_eq x.0 y.0 && nat_eq x.1 y.1) (x ≡ y)
pair_eq-Decides x y = (
  (λ h. let p = parts _ _ h in
      let e : x.0 ≡ y.0 = (Decides-eqb x.0 y.0).0 p.0 in
      let f : x.1 ≡ y.1 = (Decides-eqb x.1 y.1).0 p.1 in
      ap (λ (n : ℕ). let q : ℕ × ℕ = (n, x.1) in q) e ∙ ap (λ (n : ℕ). let q : ℕ × ℕ = (y.0, n) in q) f),
  (λ h. both _ _ ((Decides-eqb x.0 y.0).1 (ap (λ (q : ℕ × ℕ). q.0) h))
      ((Decides-eqb x.1 y.1).1 (ap (λ (q : ℕ × ℕ). q.1) h))),
)

pub returns : goal.returns
returns c =
    let h = slice_eq-Decides pair_eq-Decides _ _ _ c.eq.ensures in
    rw (← c.as_slice.ensures, ← c.as_slice-2.ensures) h
