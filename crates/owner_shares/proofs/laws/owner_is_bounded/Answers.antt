use Rattle.owner_shares.proofs.Bounded.{owner_is_bounded}
use Rattle.owner_shares.proofs.laws.owner_is_bounded.Goals as goal

pub returns : goal.returns
returns c = owner_is_bounded
