use Rattle.bracha_instance.proofs.Due.{delivery_stays}
use Rattle.bracha_instance.proofs.laws.delivery_stays.Goals as goal

pub returns : goal.returns
returns c = delivery_stays
