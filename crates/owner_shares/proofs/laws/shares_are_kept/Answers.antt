use Rattle.owner_shares.proofs.Stays.{shares_are_kept}
use Rattle.owner_shares.proofs.laws.shares_are_kept.Goals as goal

pub returns : goal.returns
returns c = shares_are_kept
