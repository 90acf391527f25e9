use Rattle.std.proofs.Common.{sym, ◌∙◌}
use Rattle.byz_world.proofs.Arriving.{acted_elsewhere}
use Rattle.byz_world.proofs.world.World.act.Goals as goal

pub returns-then-not-is_correct-clause-due : goal.returns-then-not-is_correct-clause-due
returns-then-not-is_correct-clause-due c =
    acted_elsewhere c.args.self.now c.args.name c.args.act
    (sym c.is_correct.ensures.value ∙ c.if-not-is_correct.true)
