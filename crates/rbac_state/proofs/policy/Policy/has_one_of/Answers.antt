use Rattle.std.proofs.Common.{ap, ◌∙◌}
use Rattle.std.specs.List.{list_any}
use Rattle.rbac_state.proofs.ListingLemmas.{assigned_is}
use Rattle.rbac_state.proofs.policy.Policy.has_one_of.Goals as goal

pub returns : goal.returns
returns c =
    let assignments = ap (λ v. v.assignments) c.self.view_is in
    c.has_one_of.ensures
    ∙ (λ i. list_any (λ role. assigned_is c.args.self.now c.self.inside.assigned assignments c.self.invariant.users
    c.args.user role i) c.args.roles.now)
