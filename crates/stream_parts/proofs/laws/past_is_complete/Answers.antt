use Rattle.stream_parts.proofs.Whole.{past_is_complete}
use Rattle.stream_parts.proofs.laws.past_is_complete.Goals as goal

pub returns : goal.returns
returns c = past_is_complete
