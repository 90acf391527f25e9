use Rattle.std.proofs.Common.{◌<◌, length, Result, Ok, Err, refl, ◌∙◌, arith}
use Rattle.std.specs.Prelude.{OnErr}
use Rattle.byz_world.proofs.BlockMembers.{given_to_none, given_to_next, given_to_all, given_in_part}
use Rattle.byz_world.proofs.block.give_to_each.Goals as goal

pub loop-name-init : goal.loop-name-init
loop-name-init c = (given_to_none c.args.members.now.items c.args.sent.now c.args.marks.now.items c.requires.none, refl)

pub loop-name-preserved : goal.loop-name-preserved
loop-name-preserved c =
    let more : c.loop-name.name < length c.args.members.now.items =
    omega (arith, c.loop-name-test.true, c.len-name-end.ensures, c.args.members.now.ok.0) in (
      given_to_next c.args.members.now.items c.loop-name.members.items c.give_to.new.members.items c.args.sent.now
          c.loop-name.marks.items c.give_to.new.marks.items c.loop-name.name c.loop-name.invariant.0 more
          c.in_ok-give_to.ensures.some c.in_ok-give_to.ensures.all,
      c.in_ok-give_to.ensures.room ∙ c.loop-name.invariant.1,
    )

pub returns-in_err-give_to-clause-memory : goal.returns-in_err-give_to-clause-memory
returns-in_err-give_to-clause-memory c =
    on_err c.from_residual.result (c.loop-name.name, c.in_err-give_to.ensures.memory)
  where
    on_err : {A E : Type 0} (r : Result A E) → {P : Type 0} → P → OnErr r P
    on_err (Ok x) p = tt
    on_err (Err x) p = p

pub returns-in_err-give_to-clause-given : goal.returns-in_err-give_to-clause-given
returns-in_err-give_to-clause-given c =
    let more : c.loop-name.name < length c.args.members.now.items =
    omega (arith, c.loop-name-test.true, c.len-name-end.ensures, c.args.members.now.ok.0) in
    given_in_part c.args.members.now.items c.loop-name.members.items c.give_to.new.members.items c.args.sent.now
    c.loop-name.marks.items c.give_to.new.marks.items c.loop-name.name c.loop-name.invariant.0 more
    c.in_err-give_to.ensures.some

pub returns-clause-given : goal.returns-clause-given
returns-clause-given c =
    given_to_all c.args.members.now.items c.loop-name.members.items c.args.sent.now c.loop-name.marks.items
    c.loop-name.name c.loop-name.invariant.0
    (omega (arith, c.loop-name-test.false, c.len-name-end.ensures, c.args.members.now.ok.0))
