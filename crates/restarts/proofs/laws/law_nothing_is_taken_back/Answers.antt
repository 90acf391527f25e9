use Rattle.restarts.proofs.Lives.{nothing_is_taken_back}
use Rattle.restarts.proofs.laws.law_nothing_is_taken_back.Goals as goal

pub returns : goal.returns
returns c = nothing_is_taken_back
