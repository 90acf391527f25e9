-- The pairs of an ascending list that begin alike.
use Rattle.std.proofs.Common.{◌≡◌, ℕ, ◌+◌, ◌-◌, ◌<◌, ◌≤◌, Bool, true, false, List, [], ◌++◌}
use Rattle.std.proofs.Common.{length, get_or, take, drop, refl, sym, ap, ◌∙◌, arith, filter, append-nil}
use Rattle.std.specs.declared.cmp.Ordering.{Ordering}
use Rattle.std.specs.declared.cmp.Ordering.TheVariants.{Less, Equal, Greater}
use Rattle.std.specs.Ordering.{eq_by_cmp, is_eq, is_lt, ordering_index, ordering_reverse, ordering_then}
use Rattle.std.specs.List.Sorted.{IsStrictlySortedBy, IsSortedBy, IsNonDecreasingBy, IsPartitionPoint, IsPartitionedBy}
use Rattle.std.specs.Cmp.{IsTotalOrder}
use Rattle.std.proofs.lemmas.Cmp.{eq_by_cmp_equiv}
use Rattle.std.proofs.lemmas.List.{take-append-drop, length-take-le, length-drop, get_or-take, get_or-drop}
use Rattle.std.proofs.lemmas.List.Elements.{filter-append}
use Rattle.std.proofs.lemmas.List.Sorted.{searchable_from_sorted}
use Rattle.std.proofs.lemmas.Map.Keys.{Less-from_sorted}
use Rattle.sorted_pairs.specs.Pairs.{pair_cmp}
use Rattle.sorted_pairs.proofs.Members.{filter_none, filter_every}

then_less : (u v : Ordering) → ordering_then u v ≡ Less → is_lt (ordering_reverse u) ≡ false
then_less Less v e = refl
then_less Equal v e = refl
then_less Greater v e = cc

lower : (u v : Ordering) → ordering_index u ≤ ordering_index v → is_lt v ≡ true → is_lt u ≡ true
lower Less v le e = refl
lower Equal Less le e = absurd (omega arith)
lower Equal Equal le e = e
lower Equal Greater le e = e
lower Greater Less le e = absurd (omega arith)
lower Greater Equal le e = e
lower Greater Greater le e = e

level : (u v : Ordering) → ordering_index u ≤ ordering_index v → is_eq v ≡ true → is_lt u ≡ false → is_eq u ≡ true
level Less v le e not_less = cc
level Equal v le e not_less = refl
level Greater Less le e not_less = e
level Greater Equal le e not_less = absurd (omega arith)
level Greater Greater le e not_less = e

not_equal : (u : Ordering) → is_lt u ≡ true → is_eq u ≡ false
not_equal Less e = refl
not_equal Equal e = cc
not_equal Greater e = refl

-- what is compared with a first
abbrev pub is_before : {A B : Type 0} → (A → A → Ordering) → A → A × B → Bool
is_before R first p = is_lt (R p.0 first)

abbrev pub is_level : {A B : Type 0} → (A → A → Ordering) → A → A × B → Bool
is_level R first p = is_eq (R p.0 first)

module _ {A B : Type 0} {R : A → A → Ordering} (S : B → B → Ordering) (o : IsTotalOrder R) where
  firsts_never_fall : (xs : List (A × B)) → IsStrictlySortedBy (pair_cmp R S) xs
      → IsSortedBy (λ p q. is_lt (R p.0 q.0)) xs
  firsts_never_fall xs up k d low within =
      let p = get_or xs k d in
      let q = get_or xs (k + 1) d in
      ap is_lt (o.antisymm q.0 p.0)
      ∙ then_less (R p.0 q.0) (S p.1 q.1) (Less-from_sorted (pair_cmp R S) xs k (k + 1) d up (omega arith) within)

  firsts_rise : (xs : List (A × B)) (first : A) → IsStrictlySortedBy (pair_cmp R S) xs
      → IsNonDecreasingBy (λ p. ordering_index (R p.0 first)) xs
  firsts_rise xs first up = searchable_from_sorted o (λ p. p.0) xs first (firsts_never_fall xs up)

  pub before_parted : (xs : List (A × B)) (first : A) → IsStrictlySortedBy (pair_cmp R S) xs
      → IsPartitionedBy (is_before R first) xs
  before_parted xs first up i j d le within e =
      lower (R (get_or xs i d).0 first) (R (get_or xs j d).0 first) (firsts_rise xs first up i j d le within) e

  module _ (xs rest : List (A × B)) (first : A) (start : ℕ) (up : IsStrictlySortedBy (pair_cmp R S) xs)
      (fits : start ≤ length xs) (left : rest ≡ drop start xs)
      (begins : IsPartitionPoint (λ p. is_before R first p ≡ true) (λ p. is_before R first p ≡ false) xs start) where
    long : length rest ≡ length xs - start
    long = ap length left ∙ length-drop start xs

    at_rest : (k : ℕ) (d : A × B) → get_or rest k d ≡ get_or xs (start + k) d
    at_rest k d = ap (λ l. get_or l k d) left ∙ get_or-drop start xs k d

    pub level_parted : IsPartitionedBy (is_level R first) rest
    level_parted i j d le within e =
        ap (is_level R first) (at_rest i d)
        ∙ level (R (get_or xs (start + i) d).0 first) (R (get_or xs (start + j) d).0 first)
        (firsts_rise xs first up (start + i) (start + j) d (omega arith) (omega (arith, long)))
        (sym (ap (is_level R first) (at_rest j d)) ∙ e)
        (begins.1 (start + i) d (omega arith) (omega (arith, long)))

    begins_alike : (p : A × B) → eq_by_cmp R first p.0 ≡ is_level R first p
    begins_alike p = (eq_by_cmp_equiv o).symm first p.0

    module _ (count : ℕ) (within : count ≤ length rest)
        (ends : IsPartitionPoint (λ p. is_level R first p ≡ true) (λ p. is_level R first p ≡ false) rest count) where
      abbrev KeyRange : A × B → Bool
      KeyRange p = eq_by_cmp R first p.0

      front : filter KeyRange (take start xs) ≡ []
      front = filter_none KeyRange (take start xs) (λ k d below.
          let shorter : length (take start xs) ≡ start = length-take-le start xs fits in
          let lower : k < start = omega arith in
          begins_alike (get_or (take start xs) k d)
          ∙ ap (is_level R first) (get_or-take start xs k d lower)
          ∙ not_equal (R (get_or xs k d).0 first) (begins.0 k d (omega arith) lower))

      middle : filter KeyRange (take count rest) ≡ take count rest
      middle = filter_every KeyRange (take count rest) (λ k d below.
          let shorter : length (take count rest) ≡ count = length-take-le count rest within in
          let lower : k < count = omega arith in
          begins_alike (get_or (take count rest) k d)
          ∙ ap (is_level R first) (get_or-take count rest k d lower) ∙ ends.0 k d (omega arith) lower)

      back : filter KeyRange (drop count rest) ≡ []
      back = filter_none KeyRange (drop count rest) (λ k d below.
          let shorter : length (drop count rest) ≡ length rest - count = length-drop count rest in
          begins_alike (get_or (drop count rest) k d)
          ∙ ap (is_level R first) (get_or-drop count rest k d) ∙ ends.1 (count + k) d (omega arith) (omega arith))

      whole : take start xs ++ (take count rest ++ drop count rest) ≡ xs
      whole = ap (λ l. take start xs ++ l) (take-append-drop count rest ∙ left) ∙ take-append-drop start xs

      -- the range between the two places is what begins alike
      pub range_is : take count rest ≡ filter KeyRange xs
      range_is =
          sym (append-nil (take count rest))
          ∙ sym (λ i. front i ++ (middle i ++ back i))
          ∙ sym (filter-append KeyRange (take start xs) (take count rest ++ drop count rest)
          ∙ ap (λ l. filter KeyRange (take start xs) ++ l) (filter-append KeyRange (take count rest) (drop count rest)))
          ∙ ap (filter KeyRange) whole
