use Rattle.runs_within_shares.proofs.Going.{shares_go_on}
use Rattle.runs_within_shares.proofs.laws.shares_go_on.Goals as goal

pub returns : goal.returns
returns c = shares_go_on c.pool_is_sound.ensures
