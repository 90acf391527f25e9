use Rattle.std.proofs.Common.{ap, ◌∙◌, ◌&&◌, find}
use Rattle.role_sessions.specs.Decisions.{relations_of}
use Rattle.role_sessions.proofs.session.Session.granting.Goals as goal

pub returns : goal.returns
returns c =
    let relations = relations_of c.args.policy.now in
    let a = c.args in
    c.first_granting.ensures
    ∙ ap (find (λ role. relations.assigned c.self.inside.user role && relations.granted a.operation a.object role))
    c.deref.ensures.value
    ∙ ap (λ s. find (λ role. relations.assigned s.user role && relations.granted a.operation a.object role) s.active)
    c.self.view_is
