-- What holds of each item of a list that is joined from parts, and when such a list ascends.
use Rattle.std.proofs.Common.{◌≡◌, ℕ, zero, suc, ◌<◌, Bool, true, false, not, ◌&&◌, ◌||◌, ◌⊎◌, inl, inr}
use Rattle.std.proofs.Common.{List, [], ◌∷◌, ◌++◌, length, get_or, take, drop, refl, sym, ap, ◌∙◌, arith, filter}
use Rattle.std.specs.declared.cmp.Ordering.{Ordering}
use Rattle.std.specs.declared.cmp.Ordering.TheVariants.{Less}
use Rattle.std.specs.Ordering.{eq_by_cmp, is_eq, ordering_reverse}
use Rattle.std.specs.List.{AllByRecursion}
use Rattle.std.specs.List.Sorted.{IsStrictlySortedBy}
use Rattle.std.specs.Cmp.{IsTotalOrder, Equal-is}
use Rattle.std.proofs.lemmas.Cmp.{eq_by_cmp_equiv}
use Rattle.std.proofs.lemmas.List.Elements.{All-from_recursion}
use Rattle.std.proofs.lemmas.List.Folds.{list_any-append, list_any_none}
use Rattle.std.proofs.lemmas.Map.Steps.{list_any_congr}
use Rattle.sorted_pairs.specs.Lists.{is_among}

module _ {X : Type 0} (P : X → Type 0) where
  pub each_append : (xs ys : List X) → AllByRecursion P xs → AllByRecursion P ys → AllByRecursion P (xs ++ ys)
  each_append [] ys a b = b
  each_append (x ∷ xs) ys a b = (a.0, each_append xs ys a.1 b)

  pub each_first : (xs ys : List X) → AllByRecursion P (xs ++ ys) → AllByRecursion P xs
  each_first [] ys a = tt
  each_first (x ∷ xs) ys a = (a.0, each_first xs ys a.1)

  pub each_second : (xs ys : List X) → AllByRecursion P (xs ++ ys) → AllByRecursion P ys
  each_second [] ys a = a
  each_second (x ∷ xs) ys a = each_second xs ys a.1

  pub each_at : (xs : List X) (i : ℕ) (d : X) → i < length xs → AllByRecursion P xs → P (get_or xs i d)
  each_at [] i d within a = absurd (omega arith)
  each_at (x ∷ xs) zero d within a = a.0
  each_at (x ∷ xs) (suc i) d within a = each_at xs i d (omega arith) a.1

  pub each_drop : (n : ℕ) (xs : List X) → AllByRecursion P xs → AllByRecursion P (drop n xs)
  each_drop zero xs a = a
  each_drop (suc n) [] a = tt
  each_drop (suc n) (x ∷ xs) a = each_drop n xs a.1

  pub each_take : (n : ℕ) (xs : List X) → AllByRecursion P xs → AllByRecursion P (take n xs)
  each_take zero xs a = tt
  each_take (suc n) [] a = tt
  each_take (suc n) (x ∷ xs) a = (a.0, each_take n xs a.1)

pub each_map : {X : Type 0} (P Q : X → Type 0) → ((x : X) → P x → Q x) → (xs : List X) → AllByRecursion P xs
    → AllByRecursion Q xs
each_map P Q f [] a = tt
each_map P Q f (x ∷ xs) a = (f x a.0, each_map P Q f xs a.1)

pub filter_nothing : {X : Type 0} (p : X → Bool) (xs : List X) → AllByRecursion (λ x. p x ≡ false) xs
    → filter p xs ≡ []
filter_nothing p [] none = refl
filter_nothing p (x ∷ xs) none = rw (none.0) (filter_nothing p xs none.1)

module _ {K : Type 0} (R : K → K → Ordering) where
  -- each of the first is below each of the second
  abbrev pub Below : List K → List K → Type 0
  Below xs ys = AllByRecursion (λ x. AllByRecursion (λ y. R x y ≡ Less) ys) xs

  pub ascends_joined : (xs ys : List K) → IsStrictlySortedBy R xs → IsStrictlySortedBy R ys → Below xs ys
      → IsStrictlySortedBy R (xs ++ ys)
  unfolding IsStrictlySortedBy
  ascends_joined [] ys up rises below = rises
  ascends_joined (x ∷ xs) ys up rises below = (
    each_append (λ y. R x y ≡ Less) xs ys up.0 below.0,
    ascends_joined xs ys up.1 rises below.1,
  )

  pub ascends_first : (xs ys : List K) → IsStrictlySortedBy R (xs ++ ys) → IsStrictlySortedBy R xs
  unfolding IsStrictlySortedBy
  ascends_first [] ys up = tt
  ascends_first (x ∷ xs) ys up = (each_first (λ y. R x y ≡ Less) xs ys up.0, ascends_first xs ys up.1)

  pub ascends_second : (xs ys : List K) → IsStrictlySortedBy R (xs ++ ys) → IsStrictlySortedBy R ys
  unfolding IsStrictlySortedBy
  ascends_second [] ys up = up
  ascends_second (x ∷ xs) ys up = ascends_second xs ys up.1

  pub below_from : (xs ys : List K) → IsStrictlySortedBy R (xs ++ ys) → Below xs ys
  unfolding IsStrictlySortedBy
  below_from [] ys up = tt
  below_from (x ∷ xs) ys up = (each_second (λ y. R x y ≡ Less) xs ys up.0, below_from xs ys up.1)

  pub after_head : (x : K) (xs : List K) → IsStrictlySortedBy R (x ∷ xs) → AllByRecursion (λ y. R x y ≡ Less) xs
  unfolding IsStrictlySortedBy
  after_head x xs up = up.0

  pub below_both : (xs ys zs : List K) → Below xs ys → Below xs zs → Below xs (ys ++ zs)
  below_both [] ys zs a b = tt
  below_both (x ∷ xs) ys zs a b = (each_append (λ y. R x y ≡ Less) ys zs a.0 b.0, below_both xs ys zs a.1 b.1)

or_moves : (a e h c : Bool) → (a || ((e || h) || c)) ≡ (e || (a || (h || c)))
or_moves true true h c = refl
or_moves true false h c = refl
or_moves false true h c = refl
or_moves false false h c = refl

not_moves : (a e h c : Bool) → (e ≡ true → a ≡ false) → (e ≡ true → c ≡ false)
    → (a || ((not e && h) || c)) ≡ (not e && (a || (h || c)))
not_moves a true h c na nc = λ i. na refl i || (false || nc refl i)
not_moves a false h c na nc = refl

or_left : (a b : Bool) → a ≡ true → (a || b) ≡ true
or_left true b e = refl
or_left false b e = cc

or_right : (a b : Bool) → b ≡ true → (a || b) ≡ true
or_right true b e = refl
or_right false b e = e

pub or_either : (a b : Bool) → (a || b) ≡ true → (a ≡ true) ⊎ (b ≡ true)
or_either true b e = inl refl
or_either false b e = inr e

pub and_second : (a b : Bool) → (not a && b) ≡ true → b ≡ true
and_second true b e = cc
and_second false b e = e

module _ {K : Type 0} {R : K → K → Ordering} (o : IsTotalOrder R) where
  among_parts : (xs ys zs : List K) (q : K) →
      is_among R (xs ++ (ys ++ zs)) q ≡ (is_among R xs q || (is_among R ys q || is_among R zs q))
  among_parts xs ys zs q =
      list_any-append (eq_by_cmp R q) xs (ys ++ zs)
      ∙ ap (λ b. is_among R xs q || b) (list_any-append (eq_by_cmp R q) ys zs)

  above_not_tied : (x y : K) → R x y ≡ Less → eq_by_cmp R y x ≡ false
  above_not_tied x y less = ap is_eq (o.antisymm y x ∙ ap ordering_reverse less)

  tied_second : (x y z : K) → eq_by_cmp R y z ≡ true → R x z ≡ Less → R x y ≡ Less
  tied_second x y z tied less =
      o.antisymm x y ∙ ap ordering_reverse (o.congr y z x ((Equal-is (R y z)).0 tied))
      ∙ ap ordering_reverse (o.antisymm z x) ∙ ap (λ u. ordering_reverse (ordering_reverse u)) less

  tied_first : (y z x : K) → eq_by_cmp R y z ≡ true → R z x ≡ Less → R y x ≡ Less
  tied_first y z x tied less = o.congr y z x ((Equal-is (R y z)).0 tied) ∙ less

  -- what holds of each item, and can't tell ties apart, holds of what is among them
  among_each : (P : K → Type 0) → ((y z : K) → eq_by_cmp R y z ≡ true → P z → P y) → (xs : List K) →
      AllByRecursion P xs → (y : K) → is_among R xs y ≡ true → P y
  among_each P ties [] each y within = cc
  among_each P ties (x ∷ xs) each y within =
      elim (or_either (eq_by_cmp R y x) (is_among R xs y) within) [
        | inl tied ↦ ties y x tied each.0
        | inr later ↦ among_each P ties xs each.1 y later
      ]

  among_itself : (xs : List K) → AllByRecursion (λ y. is_among R xs y ≡ true) xs
  among_itself [] = tt
  among_itself (x ∷ xs) = (
    or_left (eq_by_cmp R x x) (is_among R xs x) ((eq_by_cmp_equiv o).refl x),
    each_map (λ y. is_among R xs y ≡ true) (λ y. is_among R (x ∷ xs) y ≡ true)
        (λ y h. or_right (eq_by_cmp R y x) (is_among R xs y) h) xs (among_itself xs),
  )

  -- one part changed, in which an item may be new
  module _ (before here after new : List K) (item : K)
      (below : AllByRecursion (λ x. R x item ≡ Less) before) (above : AllByRecursion (λ y. R item y ≡ Less) after) where
    not_before : is_among R before item ≡ false
    not_before = list_any_none (eq_by_cmp R item) before (All-from_recursion (λ x. eq_by_cmp R item x ≡ false) before
        (each_map (λ x. R x item ≡ Less) (λ x. eq_by_cmp R item x ≡ false) (λ x h. above_not_tied x item h) before
        below))

    not_after : is_among R after item ≡ false
    not_after = list_any_none (eq_by_cmp R item) after (All-from_recursion (λ y. eq_by_cmp R item y ≡ false) after
        (each_map (λ y. R item y ≡ Less) (λ y. eq_by_cmp R item y ≡ false) (λ y h. ap is_eq h) after above))

    or_none : (b : Bool) → (b || false) ≡ b
    or_none true = refl
    or_none false = refl

    pub among_part : is_among R (before ++ (here ++ after)) item ≡ is_among R here item
    among_part =
        among_parts before here after item
        ∙ (λ i. not_before i || (is_among R here item || not_after i)) ∙ or_none (is_among R here item)

    pub members_with_part : (q : K) → is_among R new q ≡ (eq_by_cmp R q item || is_among R here q) →
        is_among R (before ++ (new ++ after)) q
        ≡ (eq_by_cmp R q item || is_among R (before ++ (here ++ after)) q)
    members_with_part q is =
        among_parts before new after q ∙ ap (λ b. is_among R before q || (b || is_among R after q)) is
        ∙ or_moves (is_among R before q) (eq_by_cmp R q item) (is_among R here q) (is_among R after q)
        ∙ ap (λ b. eq_by_cmp R q item || b) (sym (among_parts before here after q))

    pub members_without_part : (q : K) → is_among R new q ≡ (not (eq_by_cmp R q item) && is_among R here q) →
        is_among R (before ++ (new ++ after)) q
        ≡ (not (eq_by_cmp R q item) && is_among R (before ++ (here ++ after)) q)
    members_without_part q is =
        among_parts before new after q ∙ ap (λ b. is_among R before q || (b || is_among R after q)) is
        ∙ not_moves (is_among R before q) (eq_by_cmp R q item) (is_among R here q) (is_among R after q)
        (λ e. list_any_congr (eq_by_cmp_equiv o) q item before e ∙ not_before)
        (λ e. list_any_congr (eq_by_cmp_equiv o) q item after e ∙ not_after)
        ∙ ap (λ b. not (eq_by_cmp R q item) && b) (sym (among_parts before here after q))

    module _ (up : IsStrictlySortedBy R (before ++ (here ++ after)))
        (only : (q : K) → is_among R new q ≡ true → (eq_by_cmp R q item ≡ true) ⊎ (is_among R here q ≡ true)) where
      -- what holds of the item and of the part holds of the part changed
      each_new : (P : K → Type 0) → ((y z : K) → eq_by_cmp R y z ≡ true → P z → P y) → P item →
          AllByRecursion P here → AllByRecursion P new
      each_new P ties of_item each =
          each_map (λ y. is_among R new y ≡ true) P (λ y h. elim (only y h) [
            | inl tied ↦ ties y item tied of_item
            | inr within ↦ among_each P ties here each y within
          ]) new (among_itself new)

      below_new : (xs : List K) → AllByRecursion (λ x. R x item ≡ Less) xs → Below R xs here → Below R xs new
      below_new [] lower each = tt
      below_new (x ∷ xs) lower each = (
        each_new (λ y. R x y ≡ Less) (λ y z tied less. tied_second x y z tied less) lower.0 each.0,
        below_new xs lower.1 each.1,
      )

      pub ascends_with_part : IsStrictlySortedBy R new → IsStrictlySortedBy R (before ++ (new ++ after))
      ascends_with_part rises =
          let rest : IsStrictlySortedBy R (here ++ after) = ascends_second R before (here ++ after) up in
          let across : Below R before (here ++ after) = below_from R before (here ++ after) up in
          ascends_joined R before (new ++ after) (ascends_first R before (here ++ after) up)
          (ascends_joined R new after rises (ascends_second R here after rest)
          (each_new (λ x. AllByRecursion (λ y. R x y ≡ Less) after)
          (λ y z tied each. each_map (λ x. R z x ≡ Less) (λ x. R y x ≡ Less) (λ x h. tied_first y z x tied h) after
          each)
          above (below_from R here after rest)))
          (below_both R before new after
          (below_new before below (each_map (λ x. AllByRecursion (λ y. R x y ≡ Less) (here ++ after))
          (λ x. AllByRecursion (λ y. R x y ≡ Less) here) (λ x h. each_first (λ y. R x y ≡ Less) here after h) before
          across))
          (each_map (λ x. AllByRecursion (λ y. R x y ≡ Less) (here ++ after))
          (λ x. AllByRecursion (λ y. R x y ≡ Less) after) (λ x h. each_second (λ y. R x y ≡ Less) here after h)
          before across))
