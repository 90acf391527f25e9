use Rattle.std.proofs.Common.{◌≡◌, map}
use Rattle.std.specs.Prelude.{Contains}
use Rattle.std.proofs.lemmas.Result.{IfOk-weaker}
use Rattle.rbac_state.specs.Listings.{IsListing}
use Rattle.rbac_state.specs.Policies.{permission_cmp}
use Rattle.rbac_state.specs.inside.PermissionNumbers.{permission_of}
use Rattle.rbac_state.proofs.NumberLemmas.{listing_of_numbers}
use Rattle.rbac_state.proofs.permission_number.sorted_as_numbers.Goals as goal

pub returns : goal.returns
returns c =
    IfOk-weaker c.from_numbers.result (λ xs. xs.items ≡ map permission_of c.deref.result.now)
    (λ xs. IsListing permission_cmp (Contains c.args.permissions.items) xs.items)
    (λ xs is. rw (is, c.deref.ensures.value, ← c.in_ok-numbers.ensures)
    (listing_of_numbers _ c.ascending.result.items c.ascending.ensures)) c.from_numbers.ensures
