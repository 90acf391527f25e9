use Rattle.std.proofs.Common.{ap, ◌∙◌}
use Rattle.std.specs.FinMap as map
use Rattle.std.specs.Ordering.{nat_cmp}
use Rattle.role_sessions.specs.Sessions.{Session, SessionState}
use Rattle.role_sessions.proofs.sessions.Sessions.forget.Goals as goal

pub returns-clause-state : goal.returns-clause-state
returns-clause-state c =
    let family : map.FinMap nat_cmp Session → SessionState = λ sessions. record {
      opened = c.self.inside.opened;
      open_sessions = sessions;
    } in
    ap family c.forget.ensures.sessions ∙ ap (λ v. v.state) c.self.view_is
