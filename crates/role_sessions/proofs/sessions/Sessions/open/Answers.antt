use Rattle.std.proofs.Common.{ap, subst}
use Rattle.role_sessions.specs.Kept.{KeepsRight}
use Rattle.role_sessions.specs.inside.Remembered.{as_sessions}
use Rattle.role_sessions.proofs.StateLemmas.{then_opened}
use Rattle.role_sessions.proofs.sessions.Sessions.open.Goals as goal

pub returns-clause-ok : goal.returns-clause-ok
returns-clause-ok c = λ events are.
    then_opened c.self.inside.opened c.self.inside.open_sessions.sessions c.insert.new.self.sessions
    c.args.self.now.state
    (ap (λ v. v.state) c.self.view_is) events are
    c.args.user c.new.result c.new.ensures c.in-Ok.ensures.ok

pub returns-clause-kept : goal.returns-clause-kept
returns-clause-kept c =
    subst (λ v. KeepsRight v (as_sessions c.insert.new.self)) c.self.view_is c.insert.ensures.kept

pub returns-in_default-clause-kept : goal.returns-in_default-clause-kept
returns-in_default-clause-kept c =
    subst (λ v. KeepsRight v (as_sessions c.insert.new.self)) c.self.view_is c.insert.ensures.kept
