use Rattle.part_lives.proofs.Saying.{held_is_said}
use Rattle.part_lives.proofs.laws.held_is_said.Goals as goal

pub returns : goal.returns
returns c = held_is_said
