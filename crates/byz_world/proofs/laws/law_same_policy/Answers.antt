use Rattle.byz_world.proofs.Policy.{same_policy}
use Rattle.byz_world.proofs.laws.law_same_policy.Goals as goal

pub returns : goal.returns
returns c = same_policy
