use Rattle.std.proofs.Common.{refl}
use Rattle.role_node.proofs.state.State.session_permissions.Goals as goal

pub returns-in-Ok-clause-answer : goal.returns-in-Ok-clause-answer
returns-in-Ok-clause-answer c = rw c.new.ensures (_, refl, c.in-Ok.ensures.permissions)
