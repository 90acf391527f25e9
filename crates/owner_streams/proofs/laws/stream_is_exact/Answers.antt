use Rattle.owner_streams.proofs.StreamLaws.{stream_is_exact_lem}
use Rattle.owner_streams.proofs.laws.stream_is_exact.Goals as goal

pub returns : goal.returns
returns c = stream_is_exact_lem
