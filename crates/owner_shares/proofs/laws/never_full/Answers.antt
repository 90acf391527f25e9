use Rattle.owner_shares.proofs.Rooms.{never_full}
use Rattle.owner_shares.proofs.laws.never_full.Goals as goal

pub returns : goal.returns
returns c = never_full
