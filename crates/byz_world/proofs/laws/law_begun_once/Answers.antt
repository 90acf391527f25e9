use Rattle.byz_world.proofs.Begun.{begun_once}
use Rattle.byz_world.proofs.laws.law_begun_once.Goals as goal

pub returns : goal.returns
returns c = begun_once
