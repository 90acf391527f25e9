use Rattle.restarts.proofs.Lives.{restarts_are_runs}
use Rattle.restarts.proofs.laws.law_restarts_are_runs.Goals as goal

pub returns : goal.returns
returns c = restarts_are_runs
