use Rattle.byz_world.proofs.Rest.{at_rest}
use Rattle.byz_world.proofs.laws.law_at_rest.Goals as goal

pub returns : goal.returns
returns c = at_rest
