use Rattle.std.proofs.Common.{subst}
use Rattle.byz_world.specs.Worlds.{IsClusterRunOf}
use Rattle.byz_world.proofs.world.World.node.Goals as goal

pub returns-clause-run : goal.returns-clause-run
returns-clause-run c = subst IsClusterRunOf c.self.view_is c.self.invariant.world.cluster
