use Rattle.std.proofs.Common.{ℕ}
use Rattle.std.specs.Prelude.{Contains}
use Rattle.std.proofs.lemmas.Result.{IfOk-weaker}
use Rattle.rbac_state.specs.Listings.{IsListing}
use Rattle.rbac_state.specs.Policies.{permission_cmp, RoleMay, UserMay}
use Rattle.rbac_state.proofs.ListingLemmas.{listing_of, of_users_roles}
use Rattle.rbac_state.proofs.policy.Policy.user_permissions.Goals as goal

pub returns : goal.returns
returns c =
    let value = c.args.self.now in
    let roles = c.in_ok-roles.roles.items in
    IfOk-weaker c.permissions_of.result
    (λ xs. IsListing permission_cmp (λ p. (role : ℕ) × Contains roles role × RoleMay value p.0 p.1 role) xs.items)
    (λ xs. IsListing permission_cmp (λ p. UserMay value c.args.user p.0 p.1) xs.items)
    (λ xs listing. listing_of listing
    (λ p. of_users_roles value c.args.user roles (λ role. RoleMay value p.0 p.1 role) c.in_ok-roles.ensures))
    (rw (c.deref.ensures.value) at c.permissions_of.ensures)
