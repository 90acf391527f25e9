use Rattle.owner_streams.proofs.StreamLaws.{delivery_stays_lem}
use Rattle.owner_streams.proofs.laws.delivery_stays.Goals as goal

pub returns : goal.returns
returns c = delivery_stays_lem
