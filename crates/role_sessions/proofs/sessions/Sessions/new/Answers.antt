use Rattle.std.proofs.Common.{ap, ◌∙◌}
use Rattle.std.specs.FinMap as map
use Rattle.std.specs.Ordering.{nat_cmp}
use Rattle.role_sessions.specs.Sessions.{Session, SessionState}
use Rattle.role_sessions.proofs.StateLemmas.{state_of-none}
use Rattle.role_sessions.proofs.sessions.Sessions.new.Goals as goal

pub returns-clause-state : goal.returns-clause-state
returns-clause-state c =
    let family : map.FinMap nat_cmp Session → SessionState = λ sessions. record {
      opened = 0;
      open_sessions = sessions;
    } in
    ap family c.new.ensures.sessions ∙ state_of-none
