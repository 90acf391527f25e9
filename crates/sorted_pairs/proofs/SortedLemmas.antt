-- What a search in an ascending list finds, and what an insertion or a removal at its place leaves.
use Rattle.std.proofs.Common.{◌≡◌, ℕ, ◌+◌, ◌-◌, ◌<◌, ◌≤◌, Bool, true, false, not, ◌&&◌, ◌||◌, inl, inr, List}
use Rattle.std.proofs.Common.{[], ◌∷◌, length, get_or, Result, Ok, Err, refl, sym, ap, ◌∙◌, subst, arith}
use Rattle.std.specs.Prelude.{is_ok}
use Rattle.std.specs.declared.cmp.Ordering.{Ordering}
use Rattle.std.specs.declared.cmp.Ordering.TheVariants.{Less, Equal, Greater}
use Rattle.std.specs.Ordering.{eq_by_cmp, is_eq, is_lt, ordering_index, ordering_reverse}
use Rattle.std.specs.List.{All, HoldsAt, IsDistinct, insert, remove}
use Rattle.std.specs.List.Sorted.{IsStrictlySortedBy, IsSortedBy, IsNonDecreasingBy}
use Rattle.std.specs.List.Sorted.{IsBinarySearchResult, IsSearchInRange, IsPartitionPoint, IsPermutation}
use Rattle.std.specs.Cmp.{IsTotalOrder}
use Rattle.std.proofs.lemmas.Bool.{cases_lt}
use Rattle.std.proofs.lemmas.Cmp.{eq_by_cmp_equiv, tied_back}
use Rattle.std.proofs.lemmas.List.{get_or_default}
use Rattle.std.proofs.lemmas.List.Edits.{length-insert, get_or-insert_below, get_or-insert_at, get_or-insert_above}
use Rattle.std.proofs.lemmas.List.Edits.{length-remove, get_or-remove_below, get_or-remove_above}
use Rattle.std.proofs.lemmas.List.Elements.{All-from_recursion}
use Rattle.std.proofs.lemmas.List.Folds.{list_any_at, list_any_none}
use Rattle.std.proofs.lemmas.List.Sorted.{searchable_from_sorted, list_any-IsPermutation}
use Rattle.std.proofs.lemmas.List.Sorted.{IsPermutation-insert, IsPermutation-remove}
use Rattle.std.proofs.lemmas.Map.Keys.{Less-from_sorted, sorted_from_all_adjacent}
use Rattle.std.proofs.lemmas.Map.Keys.{IsDistinct-from_sorted, IsDistinct-IsPermutation, IsDistinct-head}
use Rattle.std.proofs.lemmas.Map.Steps.{list_any_congr}
use Rattle.sorted_pairs.specs.Lists.{is_among}

or_known : (a b : Bool) → (a ≡ true → b ≡ true) → b ≡ (a || b)
or_known true b h = h refl
or_known false b h = refl

and_known : (a b : Bool) → (a ≡ true → b ≡ false) → b ≡ (not a && b)
and_known true b h = h refl
and_known false b h = refl

without : (a b c : Bool) → (a ≡ true → b ≡ false) → c ≡ (a || b) → b ≡ (not a && c)
without true b c h e = h refl
without false b c h e = sym e

pub nothing_ascends : {K : Type 0} (R : K → K → Ordering) → IsStrictlySortedBy R []
unfolding IsStrictlySortedBy
nothing_ascends R = tt

module _ {K : Type 0} {R : K → K → Ordering} (o : IsTotalOrder R) where
  before_and_after : {a b c d : K} → a ≡ c → b ≡ d → R c d ≡ Less → R a b ≡ Less
  before_and_after e f less = (λ i. R (e i) (f i)) ∙ less

  turned_less : (a b : K) → R a b ≡ Greater → R b a ≡ Less
  turned_less a b greater = o.antisymm b a ∙ ap ordering_reverse greater

  never_falls : (xs : List K) → IsStrictlySortedBy R xs → IsSortedBy (λ a b. is_lt (R a b)) xs
  never_falls xs up k d low within =
      ap is_lt (o.antisymm (get_or xs (k + 1) d) (get_or xs k d)
      ∙ ap ordering_reverse (Less-from_sorted R xs k (k + 1) d up (omega arith) within))

  rises : (xs : List K) (x : K) → IsStrictlySortedBy R xs → IsNonDecreasingBy (λ y. ordering_index (R y x)) xs
  rises xs x up = searchable_from_sorted o (λ y. y) xs x (never_falls xs up)

  -- the place for an item
  abbrev pub IsPlaceFor : List K → K → ℕ → Type 0
  IsPlaceFor xs x i = IsPartitionPoint (λ y. R y x ≡ Less) (λ y. R y x ≡ Greater) xs i

  pub place_for : (xs : List K) (x : K) (i : ℕ) → IsStrictlySortedBy R xs →
      IsBinarySearchResult (λ y. R y x) xs (Err i) → IsPlaceFor xs x i
  place_for xs x i up at = at (rises xs x up)

  apart : (xs : List K) (x : K) (i : ℕ) → IsPlaceFor xs x i → All (λ y. eq_by_cmp R x y ≡ false) xs
  apart xs x i place k d within =
      elim (cases_lt k i) [
        | inl below ↦
            ap is_eq (o.antisymm x (get_or xs k d) ∙ ap ordering_reverse (place.0 k d (omega arith) below))
        | inr above ↦ ap is_eq (o.antisymm x (get_or xs k d) ∙ ap ordering_reverse (place.1 k d above within))
      ]

  -- what is found is there, and what has a place is not
  pub there : (xs : List K) (x : K) (i : ℕ) → i < length xs → HoldsAt (λ y. R y x ≡ Equal) xs i
      → is_among R xs x ≡ true
  there xs x i within at = list_any_at (eq_by_cmp R x) xs i x within (ap is_eq (tied_back o (get_or xs i x) x (at x)))

  pub not_there : (xs : List K) (x : K) (i : ℕ) → IsPlaceFor xs x i → is_among R xs x ≡ false
  not_there xs x i place = list_any_none (eq_by_cmp R x) xs (apart xs x i place)

  pub found : (xs : List K) (x : K) (r : Result ℕ ℕ) → IsStrictlySortedBy R xs → IsSearchInRange r (length xs) →
      IsBinarySearchResult (λ y. R y x) xs r → is_ok r ≡ is_among R xs x
  found xs x (Ok i) up within at = sym (there xs x i within at)
  found xs x (Err i) up within at = sym (not_there xs x i (place_for xs x i up at))

  -- an insertion at the place
  pub members_with : (xs : List K) (x : K) (i : ℕ) (q : K) →
      is_among R (insert xs i x) q ≡ (eq_by_cmp R q x || is_among R xs q)
  members_with xs x i q =
      sym (list_any-IsPermutation (eq_by_cmp R q) (x ∷ xs) (insert xs i x) (IsPermutation-insert xs i x))

  pub members_as_before : (xs : List K) (x q : K) → is_among R xs x ≡ true →
      is_among R xs q ≡ (eq_by_cmp R q x || is_among R xs q)
  members_as_before xs x q already =
      or_known (eq_by_cmp R q x) (is_among R xs q) (λ e. list_any_congr (eq_by_cmp_equiv o) q x xs e ∙ already)

  with_adjacent : (xs : List K) (x : K) (i : ℕ) → IsStrictlySortedBy R xs → i ≤ length xs → IsPlaceFor xs x i →
      (k : ℕ) → k + 1 < length (insert xs i x) →
      R (get_or (insert xs i x) k x) (get_or (insert xs i x) (k + 1) x) ≡ Less
  with_adjacent xs x i up fits place k within =
      let long : length (insert xs i x) ≡ length xs + 1 = length-insert xs i x fits in
      elim (cases_lt (k + 1) i) [
        | inl both ↦
            before_and_after (get_or-insert_below xs i x x k (omega arith) fits)
            (get_or-insert_below xs i x x (k + 1) both fits)
            (Less-from_sorted R xs k (k + 1) x up (omega arith) (omega arith))
        | inr past ↦ elim (cases_lt k i) [
          | inl first ↦
              let here : i ≡ k + 1 = omega arith in
              before_and_after (get_or-insert_below xs i x x k first fits)
              (subst (λ q. get_or (insert xs i x) q x ≡ x) here (get_or-insert_at xs i x x fits))
              (place.0 k x (omega arith) first)
          | inr from ↦ elim (cases_lt i k) [
            | inl later ↦
                before_and_after
                (subst (λ q. get_or (insert xs i x) q x ≡ get_or xs (k - 1) x) {x = k - 1 + 1} (omega arith)
                (get_or-insert_above xs i x x (k - 1) (omega arith) fits))
                (get_or-insert_above xs i x x k from fits)
                (Less-from_sorted R xs (k - 1) k x up (omega arith) (omega arith))
            | inr upto ↦
                let here : i ≡ k = omega arith in
                before_and_after (subst (λ q. get_or (insert xs i x) q x ≡ x) here (get_or-insert_at xs i x x fits))
                (get_or-insert_above xs i x x k from fits)
                (turned_less (get_or xs k x) x (place.1 k x from (omega arith)))
          ]
        ]
      ]

  pub ascends_with : (xs : List K) (x : K) (i : ℕ) → IsStrictlySortedBy R xs → i ≤ length xs → IsPlaceFor xs x i →
      IsStrictlySortedBy R (insert xs i x)
  ascends_with xs x i up fits place =
      sorted_from_all_adjacent o (insert xs i x) x (with_adjacent xs x i up fits place)

  -- a removal
  without_adjacent : (xs : List K) (d : K) (i : ℕ) → IsStrictlySortedBy R xs → i < length xs →
      (k : ℕ) → k + 1 < length (remove xs i) →
      R (get_or (remove xs i) k d) (get_or (remove xs i) (k + 1) d) ≡ Less
  without_adjacent xs d i up fits k within =
      let long : length (remove xs i) + 1 ≡ length xs = length-remove xs i fits in
      elim (cases_lt (k + 1) i) [
        | inl both ↦
            before_and_after (get_or-remove_below xs i d k (omega arith) fits)
            (get_or-remove_below xs i d (k + 1) both fits)
            (Less-from_sorted R xs k (k + 1) d up (omega arith) (omega arith))
        | inr past ↦ elim (cases_lt k i) [
          | inl first ↦
              before_and_after (get_or-remove_below xs i d k first fits)
              (get_or-remove_above xs i d (k + 1) past fits)
              (Less-from_sorted R xs k (k + 1 + 1) d up (omega arith) (omega arith))
          | inr from ↦
              before_and_after (get_or-remove_above xs i d k from fits)
              (get_or-remove_above xs i d (k + 1) past fits)
              (Less-from_sorted R xs (k + 1) (k + 1 + 1) d up (omega arith) (omega arith))
        ]
      ]

  pub ascends_without : (xs : List K) (d : K) (i : ℕ) → IsStrictlySortedBy R xs → i < length xs →
      IsStrictlySortedBy R (remove xs i)
  ascends_without xs d i up fits = sorted_from_all_adjacent o (remove xs i) d (without_adjacent xs d i up fits)

  pub members_without : (xs : List K) (x : K) (i : ℕ) → IsStrictlySortedBy R xs → i < length xs →
      HoldsAt (λ y. R y x ≡ Equal) xs i → (q : K) →
      is_among R (remove xs i) q ≡ (not (eq_by_cmp R q x) && is_among R xs q)
  members_without xs x i up fits at q =
      let laws = eq_by_cmp_equiv o in
      let y : K = get_or xs i x in
      let moved : IsPermutation xs (y ∷ remove xs i) =
      IsPermutation-remove xs i y fits (get_or_default xs i x y fits) in
      let apart : IsDistinct (eq_by_cmp R) (y ∷ remove xs i) =
      IsDistinct-IsPermutation (eq_by_cmp R) laws.symm xs (y ∷ remove xs i) moved (IsDistinct-from_sorted R xs up) in
      let gone : is_among R (remove xs i) y ≡ false =
      list_any_none (eq_by_cmp R y) (remove xs i)
      (All-from_recursion _ (remove xs i) (IsDistinct-head (eq_by_cmp R) y (remove xs i) apart)) in
      let same : eq_by_cmp R q y ≡ eq_by_cmp R q x =
      laws.symm q y ∙ laws.congr y x q (ap is_eq (at x)) ∙ laws.symm x q in
      without (eq_by_cmp R q x) (is_among R (remove xs i) q) (is_among R xs q)
      (λ e. list_any_congr laws q y (remove xs i) (same ∙ e) ∙ gone)
      (list_any-IsPermutation (eq_by_cmp R q) xs (y ∷ remove xs i) moved
      ∙ ap (λ b. b || is_among R (remove xs i) q) same)

  pub members_none : (xs : List K) (x q : K) → is_among R xs x ≡ false →
      is_among R xs q ≡ (not (eq_by_cmp R q x) && is_among R xs q)
  members_none xs x q none =
      and_known (eq_by_cmp R q x) (is_among R xs q) (λ e. list_any_congr (eq_by_cmp_equiv o) q x xs e ∙ none)
