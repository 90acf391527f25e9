use Rattle.stream_parts.proofs.Runs.{parts_are_runs}
use Rattle.stream_parts.proofs.laws.parts_are_runs.Goals as goal

pub returns : goal.returns
returns c = parts_are_runs
