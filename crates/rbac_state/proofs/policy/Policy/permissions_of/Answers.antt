use Rattle.std.proofs.Common.{ℕ, ap}
use Rattle.std.specs.Prelude.{Contains}
use Rattle.std.proofs.lemmas.Result.{IfOk-weaker}
use Rattle.rbac_state.specs.Listings.{IsListing}
use Rattle.rbac_state.specs.Policies.{permission_cmp, RoleMay}
use Rattle.rbac_state.proofs.ListingLemmas.{listing_of, permissions_members}
use Rattle.rbac_state.proofs.policy.Policy.permissions_of.Goals as goal

pub returns : goal.returns
returns c =
    IfOk-weaker c.ascending_permissions.result
    (λ xs. IsListing permission_cmp (Contains c.in_ok-permissions.permissions.items) xs.items)
    (λ xs. IsListing permission_cmp
    (λ p. (role : ℕ) × Contains c.args.roles.now role × RoleMay c.args.self.now p.0 p.1 role) xs.items)
    (λ xs is. listing_of is
    (λ p. rw (c.in_ok-permissions.ensures)
    (permissions_members c.args.self.now c.self.inside.granted (ap (λ v. v.grants) c.self.view_is)
    c.self.invariant.permissions c.args.roles.now p))) c.ascending_permissions.ensures
