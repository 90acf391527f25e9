use Rattle.std.proofs.Common.{ℕ, [], ◌∷◌}
use Rattle.std.specs.Prelude.{Contains}
use Rattle.std.specs.Ordering.{nat_cmp}
use Rattle.std.proofs.lemmas.Result.{IfOk-weaker}
use Rattle.rbac_state.specs.Listings.{IsListing}
use Rattle.rbac_state.specs.Policies.{RoleMay}
use Rattle.rbac_state.proofs.ListingLemmas.{listing_of, lone}
use Rattle.rbac_state.proofs.policy.Policy.role_operations.Goals as goal

pub returns : goal.returns
returns c =
    let value = c.args.self.now in
    let object = c.args.object in
    IfOk-weaker c.operations_of.result
    (λ xs. IsListing nat_cmp
    (λ operation. (role : ℕ) × Contains (c.args.role ∷ []) role × RoleMay value operation object role) xs.items)
    (λ xs. IsListing nat_cmp (λ operation. RoleMay value operation object c.args.role) xs.items)
    (λ xs listing. listing_of listing (λ operation. lone c.args.role (λ role. RoleMay value operation object role)))
    c.operations_of.ensures
