use Rattle.bracha_instance.proofs.Due.{delivers_its_own}
use Rattle.bracha_instance.proofs.laws.delivers_its_own.Goals as goal

pub returns : goal.returns
returns c = delivers_its_own
