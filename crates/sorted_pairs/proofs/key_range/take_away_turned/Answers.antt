use Rattle.std.proofs.Common.{◌≡◌, ◌-◌, ◌+◌, drop, filter, sym, ap, ◌∙◌, subst, arith}
use Rattle.std.specs.Ordering.{eq_by_cmp, nat_cmp}
use Rattle.std.specs.List.{AllByRecursion}
use Rattle.std.specs.List.Sorted.{IsStrictlySortedBy}
use Rattle.sorted_pairs.specs.Blocks.{items_in}
use Rattle.sorted_pairs.specs.Pairs.{number_cmp}
use Rattle.sorted_pairs.proofs.PlaceLemmas.{block_ascends}
use Rattle.sorted_pairs.proofs.TurnedLemmas.{AreTaken, taken_before, taken_as, block_here, alike_here}
use Rattle.sorted_pairs.proofs.key_range.take_away_turned.Goals as goal

pub beginning_with-requires : goal.beginning_with-requires
beginning_with-requires g c = (
  omega arith,
  subst (IsStrictlySortedBy number_cmp) (sym c.deref.ensures.value)
      (block_ascends (λ b. b.items) c.args.range.now (c.loop-place.place - 1) c.index-range-place.result
      c.index-range-place.is (omega (arith, c.loop-place.invariant.within)) number_cmp
      c.requires.turned),
)

pub take_away_each-requires : goal.take_away_each-requires
take_away_each-requires g c = (
  omega arith,
  (
    omega arith,
    (
      c.requires.few,
      (
        c.requires.below,
        (
          subst (AllByRecursion (λ p. p.0 ≡ c.args.first)) (sym c.beginning_with.ensures)
              (alike_here c.args.first c.deref.result.now),
          (c.loop-place.invariant.taken.room 0 c.requires.blocks, c.loop-place.invariant.taken.ascending),
        ),
      ),
    ),
  ),
)

pub loop-place-preserved : goal.loop-place-preserved
loop-place-preserved g c =
    let first = c.args.first in
    let b = c.index-range-place.result in
    let i = c.loop-place.place - 1 in
    let range = c.args.range.now in
    let old = c.args.blocks.now.items in
    let between = c.loop-place.blocks.items in
    let new = c.take_away_each.new.blocks.items in
    let here = filter (λ p. eq_by_cmp nat_cmp first p.0) b.items in
    let later = filter (λ p. eq_by_cmp nat_cmp first p.0) (items_in (drop (i + 1) range)) in
    let is : c.beginning_with.result.now ≡ here =
    c.beginning_with.ensures ∙ ap (filter (λ p. eq_by_cmp nat_cmp first p.0)) c.deref.ensures.value in
    let e : c.loop-place.place ≡ i + 1 = omega arith in
    record {
      within = omega (arith, c.loop-place.invariant.within);
      taken =
          subst (λ l. AreTaken nat_cmp nat_cmp l old new)
          (sym (block_here (λ v. v.items) (λ p. eq_by_cmp nat_cmp first p.0) range i b
          (omega (arith, c.loop-place.invariant.within)) c.index-range-place.is))
          (taken_before nat_cmp nat_cmp here later old between new
          (subst (λ k. AreTaken nat_cmp nat_cmp (filter (λ p. eq_by_cmp nat_cmp first p.0)
          (items_in (drop k range))) old between) e c.loop-place.invariant.taken)
          (taken_as nat_cmp nat_cmp here between new is c.take_away_each.ensures.ascending
          c.take_away_each.ensures.members c.take_away_each.ensures.room));
    }

pub returns-clause-members : goal.returns-clause-members
returns-clause-members g c =
    let first = c.args.first in
    let e : c.loop-place.place ≡ 0 = omega arith in
    let all = subst (λ k. AreTaken nat_cmp nat_cmp (filter (λ p. eq_by_cmp nat_cmp first p.0)
    (items_in (drop k c.args.range.now))) c.args.blocks.now.items c.loop-place.blocks.items) e
    c.loop-place.invariant.taken in
    all.members
