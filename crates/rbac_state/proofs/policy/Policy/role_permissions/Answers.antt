use Rattle.std.proofs.Common.{◌≡◌, ℕ, map, filter, ap}
use Rattle.std.specs.Ordering.{eq_by_cmp, nat_cmp}
use Rattle.std.proofs.lemmas.Result.{IfOk-weaker}
use Rattle.sorted_pairs.specs.Blocks.{items_in}
use Rattle.rbac_state.specs.inside.PermissionNumbers.{permission_of}
use Rattle.rbac_state.specs.Listings.{IsListing}
use Rattle.rbac_state.specs.Policies.{permission_cmp, RoleMay}
use Rattle.rbac_state.proofs.ListingLemmas.{permissions_listing}
use Rattle.rbac_state.proofs.policy.Policy.role_permissions.Goals as goal

pub returns : goal.returns
returns c =
    IfOk-weaker c.seconds.result (λ xs. xs.items ≡ map (λ (p : ℕ × ℕ). permission_of p.1)
    (filter (λ p. eq_by_cmp nat_cmp c.args.role p.0) (items_in c.with_second.result.now)))
    (λ xs. IsListing permission_cmp (λ p. RoleMay c.args.self.now p.0 p.1 c.args.role) xs.items)
    (λ xs is. rw (is, c.with_second.ensures)
    (permissions_listing c.args.self.now c.self.inside.granted (ap (λ v. v.grants) c.self.view_is)
    c.self.invariant.permissions c.args.role)) c.seconds.ensures
