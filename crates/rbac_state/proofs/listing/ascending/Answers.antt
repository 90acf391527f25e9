use Rattle.std.proofs.Common.{◌∙◌, sym}
use Rattle.std.specs.Cmp.{Equal-is}
use Rattle.std.proofs.lemmas.List.Filters.{dedup_is}
use Rattle.std.proofs.lemmas.List.Kept.{Contains-dedup, Contains-from_dedup, IsStrictlySortedBy-dedup}
use Rattle.std.proofs.lemmas.List.Sorted.{Contains-permutation, IsPermutation-sym}
use Rattle.rbac_state.proofs.listing.ascending.Goals as goal

-- the sort moves the items, and of those that are alike one is kept
pub returns : goal.returns
returns g c =
    let is = dedup_is _ _ _ c.dedup.ensures.filtered in
    let moved = c.sort_unstable.ensures.permutation in
    record {
      ascending =
          rw is (IsStrictlySortedBy-dedup g.met.T.Ord.total g.met.T.Ord.matches_eq _ c.sort_unstable.ensures.sorted);
      exact = λ x. (
        λ h. Contains-permutation _ _ x (IsPermutation-sym _ _ moved) (Contains-from_dedup _ _ x (rw is at h)),
        λ h.
            rw is (Contains-dedup g.met.T.Eq.laws (λ a b e.
            c.requires a b ((Equal-is _).0 (sym (g.met.T.Ord.matches_eq a b) ∙ e))) _ x
            (Contains-permutation _ _ x moved h)),
      );
    }
