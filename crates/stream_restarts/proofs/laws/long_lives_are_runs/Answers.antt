use Rattle.stream_restarts.proofs.Projecting.{long_lives_are_runs}
use Rattle.stream_restarts.proofs.laws.long_lives_are_runs.Goals as goal

pub returns : goal.returns
returns c = long_lives_are_runs c.law_restarts_are_runs.ensures
