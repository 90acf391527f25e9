use Rattle.role_sessions.proofs.DecisionLaws.{relations_stay}
use Rattle.role_sessions.proofs.laws.relations_stay.Goals as goal

pub returns : goal.returns
returns c = relations_stay
