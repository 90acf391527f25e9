use Rattle.bracha_instance.proofs.StateOf.{repeat_changes_nothing}
use Rattle.bracha_instance.proofs.laws.repeat_changes_nothing.Goals as goal

pub returns : goal.returns
returns c = repeat_changes_nothing
