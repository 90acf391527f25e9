use Rattle.byz_world.proofs.Safety.{integrity}
use Rattle.byz_world.proofs.laws.law_integrity.Goals as goal

pub returns : goal.returns
returns c = integrity
