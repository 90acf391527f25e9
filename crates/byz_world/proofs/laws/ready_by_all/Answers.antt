use Rattle.byz_world.proofs.Rest.{ready_by_all}
use Rattle.byz_world.proofs.laws.ready_by_all.Goals as goal

pub returns : goal.returns
returns c = ready_by_all
