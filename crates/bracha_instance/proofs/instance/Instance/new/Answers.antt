use Rattle.bracha_instance.proofs.KeptInstances.{new_instance, state-empty}
use Rattle.bracha_instance.proofs.instance.Instance.new.Goals as goal

pub invariant_of-result : goal.invariant_of-result
invariant_of-result c = new_instance c.new.result c.new-2.result c.new.ensures c.new-2.ensures

pub returns : goal.returns
returns c = λ s. state-empty s c.new.result c.new-2.result c.new.ensures c.new-2.ensures
