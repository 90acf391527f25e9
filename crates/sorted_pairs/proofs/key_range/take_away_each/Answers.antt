use Rattle.std.proofs.Common.{◌≡◌, ℕ, ◌-◌, ◌+◌, ◌&&◌, not, ◌∷◌, [], drop, sym, ap, ◌∙◌, subst, arith}
use Rattle.std.specs.Ordering.{eq_by_cmp, nat_cmp}
use Rattle.sorted_pairs.specs.Blocks.{items_in}
use Rattle.sorted_pairs.specs.Lists.{is_among}
use Rattle.sorted_pairs.specs.Pairs.{number_cmp}
use Rattle.sorted_pairs.proofs.EachLemmas.{each_at}
use Rattle.sorted_pairs.proofs.TurnedLemmas.{AreTaken, taken_before, taken_one, item_here}
use Rattle.sorted_pairs.proofs.key_range.take_away_each.Goals as goal

pub take_away-requires-clause-filled : goal.take_away-requires-clause-filled
take_away-requires-clause-filled g c = (c.loop-place.invariant.taken.room 0 c.requires.blocks).filled

pub loop-place-preserved : goal.loop-place-preserved
loop-place-preserved g c =
    let p = c.index-pairs-place.result in
    let i = c.loop-place.place - 1 in
    let pairs = c.args.pairs.now in
    let old = c.args.blocks.now.items in
    let between = c.loop-place.blocks.items in
    let new = c.take_away.new.blocks.items in
    let e : c.loop-place.place ≡ i + 1 = omega arith in
    let alike : p.0 ≡ c.args.first =
    subst (λ (x : ℕ × ℕ). x.0 ≡ c.args.first) (sym c.index-pairs-place.is)
    (each_at (λ x. x.0 ≡ c.args.first) pairs i p (omega (arith, c.loop-place.invariant.within)) c.requires.alike) in
    let is : c.new.result ≡ (p.1, p.0) = c.new.ensures ∙ (λ k. (c.second.ensures.value k, sym alike k)) in
    record {
      within = omega (arith, c.loop-place.invariant.within);
      taken =
          subst (λ l. AreTaken nat_cmp nat_cmp l old new)
          (sym (item_here pairs i p (omega (arith, c.loop-place.invariant.within)) c.index-pairs-place.is))
          (taken_before nat_cmp nat_cmp (p ∷ []) (drop (i + 1) pairs) old between new
          (subst (λ k. AreTaken nat_cmp nat_cmp (drop k pairs) old between) e c.loop-place.invariant.taken)
          (taken_one nat_cmp nat_cmp p between new c.take_away.ensures.ascending
          (λ q. c.take_away.ensures.members q
          ∙ ap (λ x. not (eq_by_cmp number_cmp q x) && is_among number_cmp (items_in between) q) is)
          c.take_away.ensures.room));
    }

pub returns-clause-members : goal.returns-clause-members
returns-clause-members g c =
    let e : c.loop-place.place ≡ 0 = omega arith in
    let all = subst (λ k. AreTaken nat_cmp nat_cmp (drop k c.args.pairs.now) c.args.blocks.now.items
    c.loop-place.blocks.items) e c.loop-place.invariant.taken in
    all.members
