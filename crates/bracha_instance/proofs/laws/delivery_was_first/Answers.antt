use Rattle.bracha_instance.proofs.Due.{delivery_was_first}
use Rattle.bracha_instance.proofs.laws.delivery_was_first.Goals as goal

pub returns : goal.returns
returns c = delivery_was_first
