use Rattle.stream_restarts.proofs.Firm.{nothing_is_taken_back}
use Rattle.stream_restarts.proofs.laws.nothing_is_taken_back.Goals as goal

pub returns : goal.returns
returns c = nothing_is_taken_back
