use Rattle.rbac_state.proofs.PolicyLaws.{blank_is_of_no_commands, applied_is_of_one_more, same_is_of_the_same}
use Rattle.rbac_state.proofs.laws.policy_of_streams.Goals as goal

pub returns-clause-blank : goal.returns-clause-blank
returns-clause-blank c = blank_is_of_no_commands

pub returns-clause-applied : goal.returns-clause-applied
returns-clause-applied c = applied_is_of_one_more

pub returns-clause-same : goal.returns-clause-same
returns-clause-same c = same_is_of_the_same
