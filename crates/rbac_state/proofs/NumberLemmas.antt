-- Permissions as numbers: a listing of the numbers is one of the permissions.
use Rattle.std.proofs.Common.{ℕ, List, map, sym, subst}
use Rattle.std.specs.Prelude.{Contains}
use Rattle.std.specs.List.Sorted.{IsStrictlySortedBy}
use Rattle.std.specs.Ordering.{nat_cmp}
use Rattle.std.proofs.lemmas.List.{map-id}
use Rattle.rbac_state.specs.Policies.{permission_cmp}
use Rattle.rbac_state.specs.Listings.{IsListing}
use Rattle.rbac_state.specs.inside.PermissionNumbers.{permission_of}
use Rattle.sorted_pairs.proofs.Exported.{mapped_from, mapped_into}
use Rattle.rbac_state.proofs.GrantLemmas.{permissions_ascend}

among_mapped : (ms ns : List ℕ) → ((n : ℕ) → Contains ms n → Contains ns n) → (p : ℕ × ℕ) →
    Contains (map permission_of ms) p → Contains (map permission_of ns) p
among_mapped ms ns into p within =
    let n = mapped_from permission_of ms p within in
    subst (Contains (map permission_of ns)) n.2 (mapped_into permission_of ns n.0 (into n.0 n.1))

pub listing_of_numbers : (ms ns : List ℕ) → IsListing nat_cmp (Contains ms) ns →
    IsListing permission_cmp (Contains (map permission_of ms)) (map permission_of ns)
listing_of_numbers ms ns listing = record {
  ascending = permissions_ascend (λ n. n) ns (subst (IsStrictlySortedBy nat_cmp) (sym (map-id ns)) listing.ascending);
  exact = λ p. (
    among_mapped ns ms (λ n. (listing.exact n).0) p,
    among_mapped ms ns (λ n. (listing.exact n).1) p,
  );
}
