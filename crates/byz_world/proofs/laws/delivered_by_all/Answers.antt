use Rattle.byz_world.proofs.Rest.{delivered_by_all}
use Rattle.byz_world.proofs.laws.delivered_by_all.Goals as goal

pub returns : goal.returns
returns c = delivered_by_all
