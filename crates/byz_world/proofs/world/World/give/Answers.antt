use Rattle.std.proofs.Common.{sym}
use Rattle.byz_world.proofs.Arriving.{pooled_may, none_given}
use Rattle.byz_world.proofs.world.World.give.Goals as goal

pub arrive-requires : goal.arrive-requires
arrive-requires c =
    pooled_may c.args.self.now c.args.number c.in-Some.packet c.in-Some.ensures.run (sym c.in-Some.ensures.value)

pub returns-in-None-clause-due : goal.returns-in-None-clause-due
returns-in-None-clause-due c = none_given c.args.self.now c.args.number (sym c.in-None.ensures.value)
