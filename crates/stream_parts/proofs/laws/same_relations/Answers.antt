use Rattle.stream_parts.proofs.Whole.{same_relations}
use Rattle.stream_parts.proofs.laws.same_relations.Goals as goal

pub returns : goal.returns
returns c = same_relations c.parts_are_runs.ensures c.totals_agree.ensures
