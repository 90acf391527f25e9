-- Ascending lists with the same members are one.
use Rattle.std.proofs.Common.{◌≡◌, inl, inr, List, [], ◌∷◌, refl, sym, ap, ◌∙◌}
use Rattle.std.specs.Prelude.{◌↔◌, Contains}
use Rattle.std.specs.declared.cmp.Ordering.{Ordering}
use Rattle.std.specs.declared.cmp.Ordering.TheVariants.{Less, Greater}
use Rattle.std.specs.Ordering.{ordering_reverse}
use Rattle.std.specs.List.Sorted.{IsStrictlySortedBy}
use Rattle.std.specs.Cmp.{IsTotalOrder}
use Rattle.std.proofs.lemmas.Cmp.{tied_itself}
use Rattle.std.proofs.lemmas.List.Elements.{All-contains}
use Rattle.std.proofs.lemmas.Map.Keys.{sorted_tail}
use Rattle.std.proofs.lemmas.Map.Views.{All-after_first}
use Rattle.sorted_pairs.proofs.Exported.{contains_head, contains_more, contains_cases, contains_none}

module _ {K : Type 0} {R : K → K → Ordering} (o : IsTotalOrder R) where
  below_later : (x : K) (xs : List K) (y : K) → IsStrictlySortedBy R (x ∷ xs) → Contains xs y → R x y ≡ Less
  below_later x xs y up within = All-contains (λ q. R x q ≡ Less) xs y (All-after_first R x xs up) within

  not_later : (x : K) (xs : List K) (y : K) (P : Type 0) → IsStrictlySortedBy R (x ∷ xs) → Contains xs y → x ≡ y → P
  not_later x xs y P up within same =
      let less : R x x ≡ Less = ap (λ z. R x z) same ∙ below_later x xs y up within in
      let tied = tied_itself o x in
      cc

  heads : (x : K) (xs : List K) (y : K) (ys : List K) → IsStrictlySortedBy R (x ∷ xs) → IsStrictlySortedBy R (y ∷ ys) →
      Contains (y ∷ ys) x → Contains (x ∷ xs) y → x ≡ y
  heads x xs y ys up rises there here =
      elim (contains_cases y ys x there) [
        | inl same ↦ sym same
        | inr later ↦ elim (contains_cases x xs y here) [
          | inl same ↦ same
          | inr after ↦
              let one : R y x ≡ Less = below_later y ys x rises later in
              let other : R x y ≡ Less = below_later x xs y up after in
              let turned : R x y ≡ Greater = o.antisymm x y ∙ ap ordering_reverse one in
              cc
        ]
      ]

  tails : (x : K) (xs : List K) (y : K) (ys : List K) (z : K) → IsStrictlySortedBy R (x ∷ xs) → x ≡ y →
      (Contains (x ∷ xs) z → Contains (y ∷ ys) z) → Contains xs z → Contains ys z
  tails x xs y ys z up same into within =
      elim (contains_cases y ys z (into (contains_more x xs z within))) [
        | inl head ↦ not_later x xs z _ up within (same ∙ head)
        | inr later ↦ later
      ]

  -- ascending lists with the same members are one
  pub one_list : (xs ys : List K) → IsStrictlySortedBy R xs → IsStrictlySortedBy R ys
      → ((z : K) → Contains xs z ↔ Contains ys z) → xs ≡ ys
  one_list [] [] up rises same = refl
  one_list [] (y ∷ ys) up rises same = contains_none y _ ((same y).1 (contains_head y ys y refl))
  one_list (x ∷ xs) [] up rises same = contains_none x _ ((same x).0 (contains_head x xs x refl))
  one_list (x ∷ xs) (y ∷ ys) up rises same =
      let head : x ≡ y =
      heads x xs y ys up rises ((same x).0 (contains_head x xs x refl)) ((same y).1 (contains_head y ys y refl)) in
      let rest : xs ≡ ys = one_list xs ys (sorted_tail R x xs up) (sorted_tail R y ys rises)
      (λ z. (tails x xs y ys z up head (same z).0, tails y ys x xs z rises (sym head) (same z).1)) in
      λ i. head i ∷ rest i
