use Rattle.byz_world.proofs.Rest.{issued_reaches_all}
use Rattle.byz_world.proofs.laws.issued_reaches_all.Goals as goal

pub returns : goal.returns
returns c = issued_reaches_all
