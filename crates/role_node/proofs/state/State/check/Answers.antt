use Rattle.std.proofs.Common.{ap, ◌∙◌}
use Rattle.std.specs.FinMap as map
use Rattle.role_sessions.specs.Decisions.{verdict}
use Rattle.role_node.specs.Access.{relations_at}
use Rattle.role_node.proofs.KeptLemmas.{relations_are}
use Rattle.role_node.proofs.state.State.check.Goals as goal

pub returns-clause-verdict : goal.returns-clause-verdict
returns-clause-verdict c roles history h =
    let a = c.args in
    c.check.ensures.verdict
    ∙ ap (λ relations. verdict relations (map.get a.self.now.sessions.state.open_sessions a.session) a.user a.operation
    a.object) (relations_are roles history a.self.now h)
    ∙ ap (λ sessions. verdict (relations_at roles history) (map.get sessions.open_sessions a.session) a.user a.operation
    a.object) h.sessions
