use Rattle.std.proofs.Common.{sym, ◌∙◌}
use Rattle.byz_world.proofs.Arriving.{forged_refused}
use Rattle.byz_world.proofs.world.World.unless_forged.Goals as goal

pub returns-then-is_forged-clause-due : goal.returns-then-is_forged-clause-due
returns-then-is_forged-clause-due c step at =
    forged_refused c.args.self.now step c.args.packet at (sym c.is_forged.ensures.forged ∙ c.if-is_forged.true)
