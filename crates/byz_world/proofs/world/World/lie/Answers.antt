use Rattle.std.proofs.Common.{sym, ◌∙◌}
use Rattle.byz_world.proofs.Arriving.{lied_outside}
use Rattle.byz_world.proofs.world.World.lie.Goals as goal

pub returns-then-not-is_between_nodes-clause-due : goal.returns-then-not-is_between_nodes-clause-due
returns-then-not-is_between_nodes-clause-due c =
    lied_outside c.args.self.now c.args.packet.now
    (sym c.is_between_nodes.ensures.value ∙ c.if-not-is_between_nodes.true)
