use Rattle.restarts.proofs.AtOnce.{runs_are_lives}
use Rattle.restarts.proofs.laws.runs_are_lives.Goals as goal

pub returns : goal.returns
returns c = runs_are_lives
