use Rattle.std.proofs.Common.{◌≡◌, ◌||◌, Bool, true, false, not, refl, sym, ap, ◌∙◌, subst, ℕ}
use Rattle.std.specs.Prelude.{All}
use Rattle.std.specs.Ordering.{eq_by_cmp, is_eq, nat_cmp}
use Rattle.std.proofs.lemmas.List.{take_all}
use Rattle.std.proofs.lemmas.List.Elements.{All-more}
use Rattle.sorted_pairs.proofs.sorted.may_have_second.Goals as goal

left : (a b : Bool) → (a || b) ≡ false → a ≡ false
left true b e = e
left false b e = refl

right : (a b : Bool) → (a || b) ≡ false → b ≡ false
right true b e = cc
right false b e = e

pub loop-pair-preserved : goal.loop-pair-preserved
loop-pair-preserved g c e =
    let item = c.pair-item.result in
    let order = c.cmp.ensures ∙ ap (λ n. nat_cmp n c.args.second) c.second.ensures.value in
    let same = c.is_eq-found.ensures ∙ ap is_eq order in
    let other : not (eq_by_cmp nat_cmp item.1 c.args.second) ≡ true =
    ap not (sym same ∙ right c.loop-pair.found c.is_eq-found.result e) in
    All-more (λ p. not (eq_by_cmp nat_cmp p.1 c.args.second) ≡ true) c.args.pairs.now c.loop-pair.pair-index item
    c.loop-pair-test.true (c.loop-pair.invariant (left c.loop-pair.found c.is_eq-found.result e))
    (subst (λ (p : ℕ × ℕ). not (eq_by_cmp nat_cmp p.1 c.args.second) ≡ true) c.pair-item.is other)

pub returns : goal.returns
returns g c e =
    subst (All (λ p. not (eq_by_cmp nat_cmp p.1 c.args.second) ≡ true))
    (take_all c.loop-pair.pair-index c.args.pairs.now c.loop-pair-test.false) (c.loop-pair.invariant e)
