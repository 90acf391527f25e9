use Rattle.bracha_instance.proofs.Due.{ready_stays}
use Rattle.bracha_instance.proofs.laws.ready_stays.Goals as goal

pub returns : goal.returns
returns c = ready_stays
