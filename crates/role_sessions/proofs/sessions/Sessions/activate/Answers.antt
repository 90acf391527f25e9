use Rattle.std.proofs.Common.{ap, subst}
use Rattle.role_sessions.specs.Kept.{KeepsRight}
use Rattle.role_sessions.specs.inside.Remembered.{as_sessions}
use Rattle.role_sessions.specs.Decisions.{relations_of}
use Rattle.role_sessions.proofs.StateLemmas.{then_activated}
use Rattle.role_sessions.proofs.sessions.Sessions.activate.Goals as goal

pub returns-clause-ok : goal.returns-clause-ok
returns-clause-ok c = λ events are.
    then_activated c.self.inside.opened c.self.inside.open_sessions.sessions c.activate.new.self.sessions
    c.args.self.now.state
    (ap (λ v. v.state) c.self.view_is) events are
    c.args.policy.now.table (relations_of c.args.policy.now) c.args.session c.args.user c.args.role
    c.in_ok-may_activate.ensures c.in-Ok.ensures.ok

pub returns-clause-kept : goal.returns-clause-kept
returns-clause-kept c =
    subst (λ v. KeepsRight v (as_sessions c.activate.new.self)) c.self.view_is c.activate.ensures.kept

pub returns-in_default-clause-kept : goal.returns-in_default-clause-kept
returns-in_default-clause-kept c =
    subst (λ v. KeepsRight v (as_sessions c.activate.new.self)) c.self.view_is c.activate.ensures.kept
