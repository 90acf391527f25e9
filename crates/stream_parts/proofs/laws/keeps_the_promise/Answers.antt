use Rattle.stream_parts.proofs.Whole.{headline_over_parts}
use Rattle.stream_parts.proofs.laws.keeps_the_promise.Goals as goal

pub returns : goal.returns
returns c = headline_over_parts c.totals_agree.ensures c.total_integrity.ensures
