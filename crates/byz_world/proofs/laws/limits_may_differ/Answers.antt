use Rattle.byz_world.proofs.Limits.{limits_may_differ}
use Rattle.byz_world.proofs.laws.limits_may_differ.Goals as goal

pub returns : goal.returns
returns c = limits_may_differ
