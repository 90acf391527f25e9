use Rattle.lab_scripts.proofs.RestLemmas.{rests_is_rest}
use Rattle.lab_scripts.proofs.laws.rests_is_rest.Goals as goal

pub returns : goal.returns
returns c = rests_is_rest
