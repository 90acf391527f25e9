use Rattle.stream_parts.proofs.Whole.{summary_is_true}
use Rattle.stream_parts.proofs.laws.summary_is_true.Goals as goal

pub returns : goal.returns
returns c = summary_is_true c.totals_agree.ensures
