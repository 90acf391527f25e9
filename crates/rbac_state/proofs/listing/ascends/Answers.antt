use Rattle.std.proofs.Common.{◌≡◌, ℕ, ◌+◌, ◌-◌, ◌<◌, false, true≢false, List, [], ◌∷◌, length, get_or}
use Rattle.std.proofs.Common.{inl, inr, refl, sym, ap, ◌∙◌, arith}
use Rattle.std.specs.declared.cmp.Ordering.{Ordering}
use Rattle.std.specs.declared.cmp.Ordering.TheVariants.{Less, Equal, Greater}
use Rattle.std.specs.Ordering.{is_ge}
use Rattle.std.specs.Cmp.{IsTotalOrder}
use Rattle.std.specs.List.{AllAdjacentBelow}
use Rattle.std.specs.List.Sorted.{IsStrictlySortedBy}
use Rattle.std.proofs.lemmas.Bool.{cases_lt}
use Rattle.std.proofs.lemmas.List.{get_or_default}
use Rattle.std.proofs.lemmas.Map.Keys.{Less-from_sorted, sorted_from_all_adjacent}
use Rattle.rbac_state.proofs.listing.ascends.Goals as goal

rising : {X : Type 0} {R : X → X → Ordering} (o : IsTotalOrder R) (xs : List X) →
    AllAdjacentBelow (λ x y. R x y ≡ Less) xs (length xs) → IsStrictlySortedBy R xs
unfolding IsStrictlySortedBy
rising o [] rises = tt
rising o (x ∷ xs) rises = sorted_from_all_adjacent o (x ∷ xs) x (λ k within. rises k x within)

not_ge : (u : Ordering) → is_ge u ≡ false → u ≡ Less
not_ge Less e = refl
not_ge Equal e = cc
not_ge Greater e = cc

-- an item and the next one
next_is : {X : Type 0} (R : X → X → Ordering) (xs : List X) (place : ℕ) (x y d : X) → 0 < place → place < length xs →
    x ≡ get_or xs (place - 1) x → y ≡ get_or xs place y →
    R (get_or xs (place - 1) d) (get_or xs place d) ≡ R x y
next_is R xs place x y d some within first second =
    let one = get_or_default xs (place - 1) d x (omega arith) ∙ sym first in
    let two = get_or_default xs place d y within ∙ sym second in
    λ i. R (one i) (two i)

pub loop-place-preserved : goal.loop-place-preserved
loop-place-preserved g c =
    let R = g.T.Ord.cmp in
    let items = c.args.items.now in
    let place = c.loop-place.place in
    let x = c.index-items-place.result in
    let y = c.index-items-place-in-loop-place.result in
    let less : R x y ≡ Less =
    not_ge (R x y) (ap is_ge (sym c.cmp.ensures) ∙ sym c.is_ge.ensures ∙ c.if-is_ge.false) in (
      omega arith,
      λ k d low. elim (cases_lt (k + 1) place) [
        | inl before ↦ c.loop-place.invariant.1 k d before
        | inr last ↦
            let here : k ≡ place - 1 = omega (arith, low, last) in
            let next : k + 1 ≡ place = omega (arith, low, last) in
            (λ i. R (get_or items (here i) d) (get_or items (next i) d))
            ∙ next_is R items place x y d c.loop-place.invariant.0 c.loop-place-test.true c.index-items-place.is
            c.index-items-place-in-loop-place.is
            ∙ less
      ],
    )

pub returns-then-is_ge-clause-no : goal.returns-then-is_ge-clause-no
returns-then-is_ge-clause-no g c up =
    let R = g.T.Ord.cmp in
    let items = c.args.items.now in
    let place = c.loop-place.place in
    let x = c.index-items-place.result in
    let y = c.index-items-place-in-loop-place.result in
    let less : R x y ≡ Less =
    sym (next_is R items place x y x c.loop-place.invariant.0 c.loop-place-test.true c.index-items-place.is
    c.index-items-place-in-loop-place.is)
    ∙ Less-from_sorted R items (place - 1) place x up (omega (arith, c.loop-place.invariant.0))
    c.loop-place-test.true in
    absurd (true≢false (sym c.if-is_ge.true ∙ c.is_ge.ensures ∙ ap is_ge (c.cmp.ensures ∙ less)))

pub returns-clause-yes : goal.returns-clause-yes
returns-clause-yes g c _ =
    rising g.met.T.Ord.total c.args.items.now
    (λ k d low. c.loop-place.invariant.1 k d (omega (arith, c.loop-place-test.false)))
