use Rattle.owner_shares.proofs.Short.{shares_hold}
use Rattle.owner_shares.proofs.laws.shares_hold.Goals as goal

pub returns : goal.returns
returns c = shares_hold
