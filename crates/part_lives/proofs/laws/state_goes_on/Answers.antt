use Rattle.part_lives.proofs.States.{state_goes_on}
use Rattle.part_lives.proofs.laws.state_goes_on.Goals as goal

pub returns : goal.returns
returns c = state_goes_on
