use Rattle.std.proofs.Common.{ap, subst}
use Rattle.role_sessions.specs.Kept.{KeepsRight}
use Rattle.role_sessions.specs.inside.Remembered.{as_sessions}
use Rattle.role_sessions.proofs.StateLemmas.{then_dropped}
use Rattle.role_sessions.proofs.sessions.Sessions.drop_role.Goals as goal

pub returns-clause-ok : goal.returns-clause-ok
returns-clause-ok c = λ events are.
    then_dropped c.self.inside.opened c.self.inside.open_sessions.sessions c.drop_role.new.self.sessions
    c.args.self.now.state
    (ap (λ v. v.state) c.self.view_is) events are
    c.args.session c.args.user c.args.role c.drop_role.ensures.sessions

pub returns-clause-kept : goal.returns-clause-kept
returns-clause-kept c =
    subst (λ v. KeepsRight v (as_sessions c.drop_role.new.self)) c.self.view_is c.drop_role.ensures.kept
