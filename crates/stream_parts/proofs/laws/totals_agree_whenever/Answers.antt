use Rattle.stream_parts.proofs.Origins.{totals_agree_whenever}
use Rattle.stream_parts.proofs.laws.totals_agree_whenever.Goals as goal

pub returns : goal.returns
returns c = totals_agree_whenever c.parts_are_runs.ensures
