use Rattle.runs_within_shares.proofs.Going.{owners_go_on}
use Rattle.runs_within_shares.proofs.laws.owners_go_on.Goals as goal

pub returns : goal.returns
returns c = owners_go_on c.shares_go_on.ensures
