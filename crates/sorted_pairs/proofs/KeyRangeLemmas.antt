-- The pairs of one first in a list of pairs in blocks: which blocks they lie in.
use Rattle.std.proofs.Common.{◌≡◌, ℕ, ◌+◌, ◌-◌, ◌<◌, ◌≤◌, Bool, true, false, not, List, [], ◌∷◌, ◌++◌}
use Rattle.std.proofs.Common.{length, get_or, take, drop, refl, sym, ap, ◌∙◌, subst, arith, filter, append-nil}
use Rattle.std.specs.declared.cmp.Ordering.{Ordering}
use Rattle.std.specs.declared.cmp.Ordering.TheVariants.{Less, Equal, Greater}
use Rattle.std.specs.Ordering.{eq_by_cmp, is_eq, is_le, is_lt, ordering_reverse, ordering_then}
use Rattle.std.specs.List.{AllByRecursion, flat_map}
use Rattle.std.specs.List.Sorted.{IsStrictlySortedBy, IsPartitionPoint, IsPartitionedBy}
use Rattle.std.specs.Cmp.{IsTotalOrder}
use Rattle.std.proofs.lemmas.List.{length-drop}
use Rattle.std.proofs.lemmas.List.Elements.{filter-append}
use Rattle.std.proofs.lemmas.List.Kept.{IsStrictlySortedBy-filter}
use Rattle.sorted_pairs.specs.Blocks.{begins}
use Rattle.sorted_pairs.specs.Pairs.{pair_cmp}
use Rattle.sorted_pairs.proofs.EachLemmas.{each_map, each_drop, filter_nothing}
use Rattle.sorted_pairs.proofs.BlockLemmas.{before_all, from_place, begins_parted, passes_at, drop_later}
use Rattle.sorted_pairs.proofs.KeepLemmas.{filter_twice}
use Rattle.sorted_pairs.proofs.BlockLemmas.{joined_from, ascends_drop}

lt_is : (u : Ordering) → is_lt u ≡ true → u ≡ Less
lt_is Less e = refl
lt_is Equal e = cc
lt_is Greater e = cc

not_upto : (u : Ordering) → is_le u ≡ false → ordering_reverse u ≡ Less
not_upto Less e = cc
not_upto Equal e = cc
not_upto Greater e = refl

module _ {A B : Type 0} {R : A → A → Ordering} (S : B → B → Ordering) (o : IsTotalOrder R) (first : A) where
  abbrev pub IsBefore : A × B → Bool
  IsBefore p = is_lt (R p.0 first)

  abbrev pub IsUpto : A × B → Bool
  IsUpto p = is_le (R p.0 first)

  -- a pair before one whose first is lower has a lower first
  before_lower : (x y : A × B) → pair_cmp R S x y ≡ Less → IsBefore y ≡ true → R x.0 first ≡ Less
  before_lower x y less e =
      let lower : R y.0 first ≡ Less = lt_is (R y.0 first) e in
      elim (R x.0 y.0) as (λ u. R x.0 y.0 ≡ u → ordering_then u (S x.1 y.1) ≡ Less → R x.0 first ≡ Less) [
        | Less ↦ λ is _. o.trans x.0 y.0 first is lower
        | Equal ↦ λ is _. o.congr x.0 y.0 first is ∙ lower
        | Greater ↦ λ _ wrong. cc
      ] refl less

  still_not_before : (x y : A × B) → pair_cmp R S x y ≡ Less → IsBefore x ≡ false → IsBefore y ≡ false
  still_not_before x y less e =
      elim (IsBefore y) as (λ b. IsBefore y ≡ b → b ≡ false) [
        | true ↦ λ is. let lower : R x.0 first ≡ Less = before_lower x y less is in sym (ap is_lt lower) ∙ e
        | false ↦ λ _. refl
      ] refl

  above_here : (x : A × B) → IsUpto x ≡ false → R first x.0 ≡ Less
  above_here x e = o.antisymm first x.0 ∙ not_upto (R x.0 first) e

  above_later : (x y : A × B) → pair_cmp R S x y ≡ Less → IsUpto x ≡ false → R first y.0 ≡ Less
  above_later x y less e =
      let above : R first x.0 ≡ Less = above_here x e in
      elim (R x.0 y.0) as (λ u. R x.0 y.0 ≡ u → ordering_then u (S x.1 y.1) ≡ Less → R first y.0 ≡ Less) [
        | Less ↦ λ is _. o.trans first x.0 y.0 above is
        | Equal ↦ λ is _.
            o.antisymm first y.0 ∙ ap ordering_reverse (sym (o.congr x.0 y.0 first is) ∙ o.antisymm x.0 first)
            ∙ ap (λ u. ordering_reverse (ordering_reverse u)) above
        | Greater ↦ λ _ wrong. cc
      ] refl less

  module _ {X : Type 0} (f : X → List (A × B)) (xs : List X)
      (up : IsStrictlySortedBy (pair_cmp R S) (flat_map f xs))
      (filled : AllByRecursion (λ b. 0 < length (f b)) (drop 1 xs)) where
    pub before_parted_later : (later : List X) → later ≡ drop 1 xs
        → IsPartitionedBy (λ b. begins IsBefore (f b)) later
    before_parted_later later is =
        subst (IsPartitionedBy (λ b. begins IsBefore (f b))) (sym is)
        (begins_parted f IsBefore still_not_before (drop 1 xs) filled (ascends_drop f (pair_cmp R S) xs 1 up))

    pub below_start : (later : List X) (i : ℕ) → later ≡ drop 1 xs → i ≤ length later →
        IsPartitionPoint (λ b. begins IsBefore (f b) ≡ true) (λ b. begins IsBefore (f b) ≡ false) later i →
        AllByRecursion (λ p. R p.0 first ≡ Less) (flat_map f (take i xs))
    below_start later i is fits point =
        let long : length later ≡ length xs - 1 = ap length is ∙ length-drop 1 xs in
        before_all f IsBefore (λ p. R p.0 first ≡ Less) before_lower xs i up (omega arith)
        (passes_at (λ b. begins IsBefore (f b)) xs later i is point)

    pub above_end : (i : ℕ) → 0 < i →
        ((d : X) → 0 < length (drop i xs) → begins IsUpto (f (get_or (drop i xs) 0 d)) ≡ false) →
        AllByRecursion (λ p. R first p.0 ≡ Less) (flat_map f (drop i xs))
    above_end i some fails =
        let e : i - 1 + 1 ≡ i = omega arith in
        from_place f IsUpto (λ p. R first p.0 ≡ Less) above_here above_later (drop i xs)
        (subst (λ l. AllByRecursion (λ b. 0 < length (f b)) l)
        (sym (drop_later xs (i - 1)) ∙ ap (λ k. drop k xs) e)
        (each_drop (λ b. 0 < length (f b)) (i - 1) (drop 1 xs) filled))
        (ascends_drop f (pair_cmp R S) xs i up) fails

  abbrev pub IsAlike : A × B → Bool
  IsAlike p = eq_by_cmp R first p.0

  none_below : (ps : List (A × B)) → AllByRecursion (λ p. R p.0 first ≡ Less) ps → filter IsAlike ps ≡ []
  none_below ps below =
      filter_nothing IsAlike ps (each_map (λ p. R p.0 first ≡ Less) (λ p. IsAlike p ≡ false)
      (λ p less. ap is_eq (o.antisymm first p.0) ∙ ap (λ u. is_eq (ordering_reverse u)) less) ps below)

  none_above : (ps : List (A × B)) → AllByRecursion (λ p. R first p.0 ≡ Less) ps → filter IsAlike ps ≡ []
  none_above ps above =
      filter_nothing IsAlike ps (each_map (λ p. R first p.0 ≡ Less) (λ p. IsAlike p ≡ false)
      (λ p less. ap is_eq less) ps above)

  abbrev IsOther : A × B → Bool
  IsOther p = not (eq_by_cmp R p.0 first)

  pub others_below : (ps : List (A × B)) → AllByRecursion (λ p. R p.0 first ≡ Less) ps
      → AllByRecursion (λ p. IsOther p ≡ true) ps
  others_below ps below =
      each_map (λ p. R p.0 first ≡ Less) (λ p. IsOther p ≡ true) (λ p less. ap (λ u. not (is_eq u)) less) ps below

  pub others_above : (ps : List (A × B)) → AllByRecursion (λ p. R first p.0 ≡ Less) ps
      → AllByRecursion (λ p. IsOther p ≡ true) ps
  others_above ps above =
      each_map (λ p. R first p.0 ≡ Less) (λ p. IsOther p ≡ true)
      (λ p less. ap (λ u. not (is_eq u)) (o.antisymm p.0 first) ∙ ap (λ u. not (is_eq (ordering_reverse u))) less) ps
      above

  -- the pairs of the first are those of the blocks from the one place up to the other
  pub alike_in_range : {X : Type 0} (f : X → List (A × B)) (xs range : List X) (start count : ℕ) →
      range ≡ take count (drop start xs) →
      AllByRecursion (λ p. R p.0 first ≡ Less) (flat_map f (take start xs)) →
      AllByRecursion (λ p. R first p.0 ≡ Less) (flat_map f (drop count (drop start xs))) →
      filter IsAlike (flat_map f range) ≡ filter IsAlike (flat_map f xs)
  alike_in_range f xs range start count is below above =
      let front : List (A × B) = flat_map f (take start xs) in
      let middle : List (A × B) = flat_map f (take count (drop start xs)) in
      let back : List (A × B) = flat_map f (drop count (drop start xs)) in
      let whole : flat_map f xs ≡ front ++ (middle ++ back) =
      joined_from f xs start ∙ ap (λ l. front ++ l) (joined_from f (drop start xs) count) in
      ap (λ l. filter IsAlike (flat_map f l)) is
      ∙ sym (append-nil (filter IsAlike middle))
      ∙ (λ i. sym (none_below front below) i ++ (filter IsAlike middle ++ sym (none_above back above) i))
      ∙ ap (λ l. filter IsAlike front ++ l) (sym (filter-append IsAlike middle back))
      ∙ sym (filter-append IsAlike front (middle ++ back))
      ∙ ap (filter IsAlike) (sym whole)

  -- the pairs of the first, picked from a range
  module _ (all range found : List (A × B)) (is : found ≡ filter IsAlike range)
      (same : filter IsAlike range ≡ filter IsAlike all) where
    pub picked_same : filter IsAlike found ≡ filter IsAlike all
    picked_same = ap (filter IsAlike) is ∙ filter_twice IsAlike range ∙ same

    pub picked_ascend : IsStrictlySortedBy (pair_cmp R S) range → IsStrictlySortedBy (pair_cmp R S) found
    picked_ascend up =
        subst (IsStrictlySortedBy (pair_cmp R S)) (sym is) (IsStrictlySortedBy-filter (pair_cmp R S) _ _ up)

-- the only block
pub one_block : {X K : Type 0} (f : X → List K) (xs : List X) (b : X) → 1 ≤ length xs → length xs ≤ 1 →
    b ≡ get_or xs 0 b → flat_map f xs ≡ f b
one_block f [] b least most is = absurd (omega arith)
one_block f (x ∷ []) b least most is = append-nil (f x) ∙ ap f (sym is)
one_block f (x ∷ y ∷ ys) b least most is = absurd (omega arith)
