use Rattle.std.proofs.Common.{◌∙◌}
use Rattle.byz_world.proofs.Stepping.{refused_after}
use Rattle.byz_world.proofs.world.World.pass.Goals as goal

pub returns-in_default-fault-clause-after : goal.returns-in_default-fault-clause-after
returns-in_default-fault-clause-after c =
    c.in-Err.ensures.err
    ∙ refused_after c.args.self.now c.args.step.now c.in-Err.fault c.in-Err.ensures.due c.in_default-fault.not-Memory
