use Rattle.byz_world.proofs.Voted.{vote_shows_reach}
use Rattle.byz_world.proofs.laws.vote_shows_reach.Goals as goal

pub returns : goal.returns
returns c = vote_shows_reach
