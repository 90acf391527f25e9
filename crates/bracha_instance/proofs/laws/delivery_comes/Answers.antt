use Rattle.bracha_instance.proofs.Due.{delivery_comes}
use Rattle.bracha_instance.proofs.laws.delivery_comes.Goals as goal

pub returns : goal.returns
returns c = delivery_comes
