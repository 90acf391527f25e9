use Rattle.std.proofs.Common.{ap, ◌∙◌}
use Rattle.role_sessions.specs.Decisions.{decided}
use Rattle.role_node.proofs.KeptLemmas.{relations_are}
use Rattle.role_node.proofs.state.State.decide.Goals as goal

pub returns : goal.returns
returns c roles history h =
    let a = c.args in
    c.decide.ensures
    ∙ ap (λ relations. decided relations a.active.now a.user a.operation a.object)
    (relations_are roles history a.self.now h)
