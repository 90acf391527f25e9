use Rattle.quorum_sizes.proofs.SizeLaws.{correct_are_enough}
use Rattle.quorum_sizes.proofs.laws.correct_are_enough.Goals as goal

pub returns : goal.returns
returns c = correct_are_enough
