use Rattle.std.proofs.Common.{refl}
use Rattle.role_node.proofs.state.State.ask.Goals as goal

pub returns-in_ok-user_permissions-in-UserPermissions-clause-answer :
    goal.returns-in_ok-user_permissions-in-UserPermissions-clause-answer
returns-in_ok-user_permissions-in-UserPermissions-clause-answer c =
    rw (c.in-UserPermissions.is, c.new-in-UserPermissions.ensures)
    (_, refl, c.in_ok-user_permissions-in-UserPermissions.ensures)

pub returns-in_ok-user_operations-in-UserOperations-clause-answer :
    goal.returns-in_ok-user_operations-in-UserOperations-clause-answer
returns-in_ok-user_operations-in-UserOperations-clause-answer c =
    rw (c.in-UserOperations.is, c.new-in-UserOperations.ensures)
    (_, refl, c.in_ok-user_operations-in-UserOperations.ensures)
