use Rattle.std.proofs.Common.{◌&&◌, ap, ◌∙◌, arith}
use Rattle.std.specs.List.{find}
use Rattle.rbac_state.proofs.ListingLemmas.{assigned_is, may_is}
use Rattle.rbac_state.proofs.policy.Policy.first_granting.Goals as goal

pub returns : goal.returns
returns c =
    let value = c.args.self.now in
    let inside = c.self.inside in
    let kept = c.self.invariant in
    let assignments = ap (λ v. v.assignments) c.self.view_is in
    let grants = ap (λ v. v.grants) c.self.view_is in
    rw (c.number_of.ensures) at c.first_granting.ensures
    ∙ (λ i. find (λ role. assigned_is value inside.assigned assignments kept.users c.args.user role i
    && may_is value inside.granted grants kept.permissions (c.args.operation, c.args.object) role (omega arith) i)
    c.args.roles.now)
