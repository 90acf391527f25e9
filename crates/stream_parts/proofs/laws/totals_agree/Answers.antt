use Rattle.stream_parts.proofs.Origins.{totals_agree}
use Rattle.stream_parts.proofs.laws.totals_agree.Goals as goal

pub returns : goal.returns
returns c = totals_agree c.parts_are_runs.ensures
