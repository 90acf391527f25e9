use Rattle.bracha_instance.proofs.Due.{echo_stays}
use Rattle.bracha_instance.proofs.laws.echo_stays.Goals as goal

pub returns : goal.returns
returns c = echo_stays
