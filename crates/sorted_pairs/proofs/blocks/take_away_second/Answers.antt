use Rattle.std.proofs.Common.{not, refl, ◌-◌, ◌∙◌, arith}
use Rattle.std.specs.Ordering.{eq_by_cmp, nat_cmp}
use Rattle.sorted_pairs.proofs.PickLemmas.{picked_all, picked_more}
use Rattle.sorted_pairs.proofs.blocks.take_away_second.Goals as goal

pub loop-place-preserved : goal.loop-place-preserved
loop-place-preserved g c =
    picked_more (λ p. not (eq_by_cmp nat_cmp p.1 c.args.second)) 0 c.args.blocks.now.items c.loop-place.blocks.items
    c.loop-place.place (c.loop-place.place - 1) c.index_mut.result.now c.take_away_second.new.pairs
    c.loop-place.invariant
    c.loop-place-test.true refl c.index_mut.ensures.value c.take_away_second.ensures.items
    c.take_away_second.ensures.shrinks
    c.take_away_second.ensures.capacity

pub returns-clause-items : goal.returns-clause-items
returns-clause-items g c =
    c.drop_empty.ensures.same
    ∙ picked_all (λ p. not (eq_by_cmp nat_cmp p.1 c.args.second)) 0 c.loop-place.place c.args.blocks.now.items
    c.loop-place.blocks.items c.loop-place-test.false c.loop-place.invariant

pub returns-clause-room : goal.returns-clause-room
returns-clause-room g c room are =
    c.drop_empty.ensures.room room (c.loop-place.invariant.room room are.roomy)
    (λ some. omega (arith, are.some some, c.loop-place.invariant.many))
