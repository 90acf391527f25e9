use Rattle.std.proofs.Common.{◌-◌, ◌∙◌, not, refl, take, drop, arith}
use Rattle.std.specs.Ordering.{eq_by_cmp, nat_cmp}
use Rattle.std.proofs.lemmas.Cmp.{nat_cmp_total}
use Rattle.sorted_pairs.specs.Blocks.{items_in}
use Rattle.sorted_pairs.proofs.PickLemmas.{picked_first, picked_all, picked_more}
use Rattle.sorted_pairs.proofs.KeyRangeLemmas.{others_below, others_above}
use Rattle.sorted_pairs.proofs.key_range.take_away_in_many.Goals as goal

pub loop-next-init : goal.loop-next-init
loop-next-init g c =
    let o = nat_cmp_total in
    let first = c.args.first in
    let blocks = c.args.blocks.now.items in
    picked_first (λ p. not (eq_by_cmp nat_cmp p.0 first)) c.args.start c.args.end blocks c.requires.onward
    c.requires.within (others_below nat_cmp o first (items_in (take c.args.start blocks)) c.requires.below)
    (others_above nat_cmp o first (items_in (drop c.args.end blocks)) c.requires.above)

pub loop-next-preserved : goal.loop-next-preserved
loop-next-preserved g c =
    picked_more (λ p. not (eq_by_cmp nat_cmp p.0 c.args.first)) c.args.start
    c.args.blocks.now.items c.loop-next.blocks.items
    c.loop-next.next (c.loop-next.next - 1) c.index_mut.result.now c.take_away_first.new.pairs
    c.loop-next.invariant
    c.loop-next-test.true refl c.index_mut.ensures.value c.take_away_first.ensures.items
    c.take_away_first.ensures.shrinks
    c.take_away_first.ensures.capacity

pub returns-clause-items : goal.returns-clause-items
returns-clause-items g c =
    c.drop_empty.ensures.same
    ∙ picked_all (λ p. not (eq_by_cmp nat_cmp p.0 c.args.first)) c.args.start c.loop-next.next
    c.args.blocks.now.items
    c.loop-next.blocks.items c.loop-next-test.false c.loop-next.invariant

pub returns-clause-room : goal.returns-clause-room
returns-clause-room g c room are =
    c.drop_empty.ensures.room room (c.loop-next.invariant.room room are.roomy)
    (λ some. omega (arith, are.some some, c.loop-next.invariant.many))
