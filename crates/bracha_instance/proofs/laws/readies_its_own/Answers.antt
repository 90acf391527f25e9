use Rattle.bracha_instance.proofs.Due.{readies_its_own}
use Rattle.bracha_instance.proofs.laws.readies_its_own.Goals as goal

pub returns : goal.returns
returns c = readies_its_own
