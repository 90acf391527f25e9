use Rattle.byz_world.proofs.Fronts.{fronts_are_runs}
use Rattle.byz_world.proofs.laws.fronts_are_runs.Goals as goal

pub returns : goal.returns
returns c = fronts_are_runs
