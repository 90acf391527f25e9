use Rattle.std.proofs.Common.{◌≡◌, ◌∙◌}
use Rattle.role_sessions.specs.Decisions.{relations_of, counted_roles}
use Rattle.role_sessions.proofs.session.Session.permissions.Goals as goal

pub returns : goal.returns
returns c =
    let counted : c.deref.result.now ≡ counted_roles (relations_of c.args.policy.now) c.args.self.now =
    c.deref.ensures.value ∙ c.in_ok-counted.ensures in
    rw counted at c.permissions_of.ensures
