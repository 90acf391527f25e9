use Rattle.byz_world.proofs.Safety.{consistency}
use Rattle.byz_world.proofs.laws.law_consistency.Goals as goal

pub returns : goal.returns
returns c = consistency
