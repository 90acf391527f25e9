use Rattle.std.proofs.Common.{ℕ}
use Rattle.std.specs.Prelude.{Contains}
use Rattle.std.specs.Ordering.{nat_cmp}
use Rattle.std.proofs.lemmas.Result.{IfOk-weaker}
use Rattle.rbac_state.specs.Listings.{IsListing}
use Rattle.rbac_state.specs.Policies.{RoleMay, UserMay}
use Rattle.rbac_state.proofs.ListingLemmas.{listing_of, of_users_roles}
use Rattle.rbac_state.proofs.policy.Policy.user_operations.Goals as goal

pub returns : goal.returns
returns c =
    let value = c.args.self.now in
    let roles = c.in_ok-roles.roles.items in
    let object = c.args.object in
    IfOk-weaker c.operations_of.result
    (λ xs. IsListing nat_cmp (λ operation. (role : ℕ) × Contains roles role × RoleMay value operation object role)
    xs.items)
    (λ xs. IsListing nat_cmp (λ operation. UserMay value c.args.user operation object) xs.items)
    (λ xs listing. listing_of listing
    (λ operation.
    of_users_roles value c.args.user roles (λ role. RoleMay value operation object role) c.in_ok-roles.ensures))
    (rw (c.deref.ensures.value) at c.operations_of.ensures)
