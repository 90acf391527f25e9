use Rattle.rbac_state.proofs.PolicyLaws.{one_more_user, one_more_permission}
use Rattle.rbac_state.proofs.laws.law_one_more.Goals as goal

pub returns-clause-user : goal.returns-clause-user
returns-clause-user c = one_more_user

pub returns-clause-permission : goal.returns-clause-permission
returns-clause-permission c = one_more_permission
