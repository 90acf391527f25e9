use Rattle.bracha_instance.proofs.Due.{ready_comes}
use Rattle.bracha_instance.proofs.laws.ready_comes.Goals as goal

pub returns : goal.returns
returns c = ready_comes
