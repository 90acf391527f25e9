use Rattle.bracha_instance.proofs.Due.{ready_was_first}
use Rattle.bracha_instance.proofs.laws.ready_was_first.Goals as goal

pub returns : goal.returns
returns c = ready_was_first
