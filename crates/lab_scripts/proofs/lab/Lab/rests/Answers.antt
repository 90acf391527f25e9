use Rattle.lab_scripts.proofs.RestLemmas.{same_truth, rests_is_rest}
use Rattle.lab_scripts.specs.Rests.{rests}
use Rattle.lab_scripts.proofs.lab.Lab.rests.Goals as goal

pub returns : goal.returns
returns c =
    same_truth c.at_rest.result (rests c.args.self.now.world) c.at_rest.ensures.value
    (rests_is_rest c.args.self.now.world)
