use Rattle.std.proofs.Common.{◌-◌, not, refl, take, drop}
use Rattle.std.specs.Ordering.{eq_by_cmp, nat_cmp}
use Rattle.std.proofs.lemmas.Cmp.{nat_cmp_total}
use Rattle.sorted_pairs.specs.Blocks.{items_in}
use Rattle.sorted_pairs.proofs.KeepLemmas.{kept_between_first, kept_between_all, kept_between_more}
use Rattle.sorted_pairs.proofs.KeyRangeLemmas.{others_below, others_above}
use Rattle.sorted_pairs.proofs.key_range.take_away_in_few.Goals as goal

pub loop-place-init : goal.loop-place-init
loop-place-init g c =
    let o = nat_cmp_total in
    let first = c.args.first in
    let blocks = c.args.blocks.now.items in
    kept_between_first (λ p. not (eq_by_cmp nat_cmp p.0 first)) c.args.start c.args.end blocks c.requires.onward
    c.requires.within (others_below nat_cmp o first (items_in (take c.args.start blocks)) c.requires.below)
    (others_above nat_cmp o first (items_in (drop c.args.end blocks)) c.requires.above)

pub loop-place-preserved : goal.loop-place-preserved
loop-place-preserved g c =
    kept_between_more (λ p. not (eq_by_cmp nat_cmp p.0 c.args.first)) c.args.start
    c.args.blocks.now.items c.loop-place.blocks.items _
    c.loop-place.place (c.loop-place.place - 1) c.index_mut.result.now c.take_away_first.new.pairs
    c.loop-place.invariant
    c.loop-place-test.true refl c.index_mut.ensures.value c.take_away_first.ensures.items
    c.take_away_first.ensures.shrinks
    c.take_away_first.ensures.capacity c.drop_if_empty.ensures

pub returns-clause-items : goal.returns-clause-items
returns-clause-items g c =
    kept_between_all (λ p. not (eq_by_cmp nat_cmp p.0 c.args.first)) c.args.start c.loop-place.place
    c.args.blocks.now.items
    c.loop-place.blocks.items c.loop-place-test.false c.loop-place.invariant
