use Rattle.stream_parts.proofs.Whole.{total_integrity}
use Rattle.stream_parts.proofs.laws.total_integrity.Goals as goal

pub returns : goal.returns
returns c = total_integrity c.parts_are_runs.ensures
