use Rattle.std.proofs.Common.{sym, ap, subst, ◌∙◌}
use Rattle.std.specs.FinMap as map
use Rattle.std.specs.Ordering.{nat_cmp}
use Rattle.role_sessions.specs.Sessions.{Session, SessionState}
use Rattle.role_sessions.specs.Decisions.{relations_of, verdict}
use Rattle.role_sessions.specs.Kept.{KeptAreRight}
use Rattle.role_sessions.proofs.sessions.Sessions.check.Goals as goal

pub check-requires : goal.check-requires
check-requires c = subst (KeptAreRight (relations_of c.args.policy.now)) (sym c.self.view_is) c.requires

pub returns-clause-verdict : goal.returns-clause-verdict
returns-clause-verdict c =
    let a = c.args in
    c.check.ensures.verdict
    ∙ ap (λ v. verdict (relations_of a.policy.now) (map.get v.state.open_sessions a.session) a.user a.operation
    a.object)
    c.self.view_is

pub returns-clause-state : goal.returns-clause-state
returns-clause-state c =
    let family : map.FinMap nat_cmp Session → SessionState = λ sessions. record {
      opened = c.self.inside.opened;
      open_sessions = sessions;
    } in
    ap family c.check.ensures.sessions ∙ ap (λ v. v.state) c.self.view_is

pub returns-clause-kept : goal.returns-clause-kept
returns-clause-kept c = c.check.ensures.kept
