use Rattle.owner_streams.proofs.StreamLaws.{stream_grows_lem}
use Rattle.owner_streams.proofs.laws.stream_grows.Goals as goal

pub returns : goal.returns
returns c = stream_grows_lem
