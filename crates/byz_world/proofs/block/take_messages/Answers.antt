use Rattle.std.proofs.Common.{◌≡◌, ◌+◌, ◌∷◌, [], ◌++◌, take, refl, ◌∙◌, arith}
use Rattle.std.proofs.lemmas.Grind.{common_steps}
use Rattle.std.proofs.lemmas.List.{length-take-le}
use Rattle.byz_world.proofs.BlockTakes.{took_none, took_next, took_all, took-length}
use Rattle.byz_world.proofs.block.take_messages.Goals as goal

pub loop-one-init : goal.loop-one-init
loop-one-init c = (took_none _ _ _, refl)

pub loop-one-preserved : goal.loop-one-preserved
loop-one-preserved c =
    let sent = c.args.sent.now in
    let index = c.loop-one.one-index in
    let longer : take (index + 1) sent ≡ take index sent ++ c.one-item.result ∷ [] = grind (arith, common_steps) in (
      took_next c.one-item.result c.in_ok-mark.mark c.loop-one.invariant.0 c.loop-one-test.true longer
          c.in_ok-mark.ensures.node c.in_ok-mark.ensures.mark c.push_reserved.ensures.items,
      c.push_reserved.ensures.capacity ∙ c.loop-one.invariant.1,
    )

pub returns-clause-some : goal.returns-clause-some
returns-clause-some c = (_, c.loop-one.invariant.0)

pub returns-clause-all : goal.returns-clause-all
returns-clause-all c = took_all c.loop-one.invariant.0 c.loop-one-test.false

pub push_reserved-requires : goal.push_reserved-requires
push_reserved-requires c =
    let took = c.loop-one.invariant.0 in
    let short = length-take-le c.loop-one.one-index c.args.sent.now took.within in
    omega (
      arith,
      took-length took,
      short,
      c.loop-one-test.true,
      c.requires,
      c.loop-one.invariant.1,
      c.loop-one.marks.ok.0,
      c.args.marks.now.ok.0,
    )
