use Rattle.std.proofs.Common.{◌≡◌, ℕ, map, filter, ap}
use Rattle.std.specs.Ordering.{eq_by_cmp, nat_cmp}
use Rattle.std.proofs.lemmas.Result.{IfOk-weaker}
use Rattle.sorted_pairs.specs.Blocks.{items_in}
use Rattle.rbac_state.specs.Listings.{IsListing}
use Rattle.rbac_state.specs.Policies.{HasRole}
use Rattle.rbac_state.proofs.ListingLemmas.{roles_listing}
use Rattle.rbac_state.proofs.policy.Policy.assigned_roles.Goals as goal

pub returns : goal.returns
returns c =
    IfOk-weaker c.seconds.result (λ xs. xs.items ≡ map (λ (p : ℕ × ℕ). p.1)
    (filter (λ p. eq_by_cmp nat_cmp c.args.user p.0) (items_in c.with_first.result.now)))
    (λ xs. IsListing nat_cmp (λ role. HasRole c.args.self.now c.args.user role) xs.items)
    (λ xs is. rw (is, c.with_first.ensures)
    (roles_listing c.args.self.now c.self.inside.assigned (ap (λ v. v.assignments) c.self.view_is)
    c.self.invariant.users c.args.user)) c.seconds.ensures
