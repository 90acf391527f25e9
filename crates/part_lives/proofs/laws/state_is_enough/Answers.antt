use Rattle.part_lives.proofs.States.{state_is_enough}
use Rattle.part_lives.proofs.laws.state_is_enough.Goals as goal

pub returns : goal.returns
returns c = state_is_enough
