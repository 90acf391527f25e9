use Rattle.std.proofs.Common.{ap, ◌∙◌}
use Rattle.bracha_instance.specs.Taking.{has_voted}
use Rattle.bracha_instance.specs.inside.Instances.{instance_state}
use Rattle.bracha_instance.proofs.Counting.{voted_at}
use Rattle.bracha_instance.proofs.KeptInstances.{is_noted-has_voted}
use Rattle.bracha_instance.proofs.instance.Instance.voted.Goals as goal

pub returns-clause-seen : goal.returns-clause-seen
returns-clause-seen c =
    c.voted.ensures
    ∙ is_noted-has_voted (instance_state c.self.inside) c.args.kind c.args.from
    ∙ ap (λ st. has_voted st c.args.kind c.args.from) c.self.view_is

pub returns-clause-vote : goal.returns-clause-vote
returns-clause-vote c = λ s takes owner command.
    voted_at s takes owner c.args.kind c.args.from command c.args.self.now _ (returns-clause-seen c)
