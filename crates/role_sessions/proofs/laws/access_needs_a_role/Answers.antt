use Rattle.role_sessions.proofs.DecisionLaws.{allowed_in_a_role, denied_for_want_of_a_role}
use Rattle.role_sessions.proofs.laws.access_needs_a_role.Goals as goal

pub returns-clause-allowed : goal.returns-clause-allowed
returns-clause-allowed c = allowed_in_a_role

pub returns-clause-denied : goal.returns-clause-denied
returns-clause-denied c = denied_for_want_of_a_role
