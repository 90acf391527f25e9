-- A list of pairs: what a pair put or taken away leaves, and what its parts list.
use Rattle.std.proofs.Common.{◌≡◌, Bool, true, false, not, ◌&&◌, cond, List, [], ◌∷◌, refl, sym, ap, ◌∙◌}
use Rattle.std.proofs.Common.{subst, filter, map}
use Rattle.std.specs.Prelude.{IsTrue, ◌↔◌, Contains}
use Rattle.std.specs.declared.cmp.Ordering.{Ordering}
use Rattle.std.specs.declared.cmp.Ordering.TheVariants.{Less, Equal, Greater}
use Rattle.std.specs.Ordering.{eq_by_cmp, is_eq, ordering_then}
use Rattle.std.specs.List.{AllByRecursion}
use Rattle.std.specs.List.Sorted.{IsStrictlySortedBy}
use Rattle.std.specs.Cmp.{IsTotalOrder, Equal-is}
use Rattle.std.proofs.lemmas.Cmp.{eq_by_cmp_equiv, then_total, on_total}
use Rattle.std.proofs.lemmas.Map.Lookups.{CmpEqualImpliesEq, exact_pairs}
use Rattle.std.proofs.lemmas.Map.Views.{any-filter_same, Contains-from_any, list_any-from_Contains, tells_apart}
use Rattle.sorted_pairs.specs.Lists.{is_among}
use Rattle.sorted_pairs.specs.Pairs.{pair_cmp}
use Rattle.sorted_pairs.proofs.Members.{picked_from, picked_into}

pub pair_tied : (u v : Ordering) → is_eq (ordering_then u v) ≡ (is_eq u && is_eq v)
pair_tied Less v = refl
pair_tied Equal v = refl
pair_tied Greater v = refl

and_comm : (a b : Bool) → (a && b) ≡ (b && a)
and_comm true true = refl
and_comm true false = refl
and_comm false true = refl
and_comm false false = refl

pub turned : (u v : Ordering) → is_eq (ordering_then u v) ≡ is_eq (ordering_then v u)
turned u v = pair_tied u v ∙ and_comm (is_eq u) (is_eq v) ∙ sym (pair_tied v u)

last_true : (a b : Bool) → (a && b) ≡ true → b ≡ true
last_true true b e = e
last_true false b e = cc

pub first_true : (a b : Bool) → (a && b) ≡ true → a ≡ true
first_true true b e = refl
first_true false b e = cc

level_less : (u v : Ordering) → u ≡ Equal → ordering_then u v ≡ Less → v ≡ Less
level_less u v e less = sym (ap (λ w. ordering_then w v) e) ∙ less

module _ {A B : Type 0} {R : A → A → Ordering} (S : B → B → Ordering) (o : IsTotalOrder R) where
  later_seconds : (a : A) (p : A × B) (ps : List (A × B)) → AllByRecursion (λ q. pair_cmp R S p q ≡ Less) ps →
      eq_by_cmp R a p.0 ≡ true →
      AllByRecursion (λ b. S p.1 b ≡ Less) (map (λ q. q.1) (filter (λ q. eq_by_cmp R a q.0) ps))
  later_seconds a p [] above alike = tt
  later_seconds a p (q ∷ qs) above alike =
      elim (eq_by_cmp R a q.0) as (λ b. eq_by_cmp R a q.0 ≡ b →
      AllByRecursion (λ b. S p.1 b ≡ Less) (map (λ q. q.1) (cond b (q ∷ filter (λ q. eq_by_cmp R a q.0) qs)
      (filter (λ q. eq_by_cmp R a q.0) qs)))) [
        | true ↦ λ same. (
          level_less (R p.0 q.0) (S p.1 q.1)
              (sym (o.congr a p.0 q.0 ((Equal-is (R a p.0)).0 alike)) ∙ (Equal-is (R a q.0)).0 same) above.0,
          later_seconds a p qs above.1 alike,
        )
        | false ↦ λ _. later_seconds a p qs above.1 alike
      ] refl

  -- the seconds of one first ascend
  pub seconds_ascend : (a : A) (ps : List (A × B)) → IsStrictlySortedBy (pair_cmp R S) ps →
      IsStrictlySortedBy S (map (λ p. p.1) (filter (λ p. eq_by_cmp R a p.0) ps))
  unfolding IsStrictlySortedBy
  seconds_ascend a [] up = tt
  seconds_ascend a (p ∷ ps) up =
      elim (eq_by_cmp R a p.0) as (λ b. eq_by_cmp R a p.0 ≡ b →
      IsStrictlySortedBy S (map (λ p. p.1) (cond b (p ∷ filter (λ p. eq_by_cmp R a p.0) ps)
      (filter (λ p. eq_by_cmp R a p.0) ps)))) [
        | true ↦ λ same. (later_seconds a p ps up.0 same, seconds_ascend a ps up.1)
        | false ↦ λ _. seconds_ascend a ps up.1
      ] refl

module _ {A B : Type 0} (R : A → A → Ordering) {S : B → B → Ordering} (o : IsTotalOrder S) where
  alike : (b : B) (second other : B) → eq_by_cmp S b other ≡ true →
      not (eq_by_cmp S other second) ≡ not (eq_by_cmp S b second)
  alike b second other e = ap (λ v. not (is_eq v)) (sym (o.congr b other second ((Equal-is (S b other)).0 e)))

  -- what is left without the pairs of a second
  pub among_others : (second : B) (ps : List (A × B)) (a : A) (b : B) →
      is_among (pair_cmp R S) (filter (λ p. not (eq_by_cmp S p.1 second)) ps) (a, b)
      ≡ (not (eq_by_cmp S b second) && is_among (pair_cmp R S) ps (a, b))
  among_others second ps a b =
      any-filter_same (eq_by_cmp (pair_cmp R S) (a, b)) (λ p. not (eq_by_cmp S p.1 second)) (not (eq_by_cmp S b second))
      (λ p e. alike b second p.1 (last_true _ _ (sym (pair_tied (R a p.0) (S b p.1)) ∙ e))) ps

  -- the same of the pairs turned
  pub among_turned_others : (second : B) (ps : List (B × A)) (a : A) (b : B) →
      is_among (pair_cmp S R) (filter (λ p. not (eq_by_cmp S p.0 second)) ps) (b, a)
      ≡ (not (eq_by_cmp S b second) && is_among (pair_cmp S R) ps (b, a))
  among_turned_others second ps a b =
      any-filter_same (eq_by_cmp (pair_cmp S R) (b, a)) (λ p. not (eq_by_cmp S p.0 second)) (not (eq_by_cmp S b second))
      (λ p e. alike b second p.0 (first_true _ _ (sym (pair_tied (S b p.0) (R a p.1)) ∙ e))) ps

module _ {A B : Type 0} {R : A → A → Ordering} {S : B → B → Ordering} (o : IsTotalOrder R) (ob : IsTotalOrder S)
    (exact : CmpEqualImpliesEq R) (exact_second : CmpEqualImpliesEq S) where
  pairs_total : IsTotalOrder (pair_cmp R S)
  pairs_total = then_total (on_total (λ p. p.0) o) (on_total (λ p. p.1) ob)

  -- a pair in the list
  among : (ps : List (A × B)) (q : A × B) → IsTrue (is_among (pair_cmp R S) ps q) ↔ Contains ps q
  among ps q = (
    λ t. Contains-from_any (tells_apart (exact_pairs R S exact exact_second)) q ps t,
    λ h. list_any-from_Contains (eq_by_cmp_equiv pairs_total) q ps h,
  )

  -- the seconds of one first, as members
  pub seconds_members : (ps : List (A × B)) (a : A) (b : B) →
      Contains (map (λ p. p.1) (filter (λ p. eq_by_cmp R a p.0) ps)) b ↔ IsTrue (is_among (pair_cmp R S) ps (a, b))
  seconds_members ps a b = (
    λ h.
        let p = picked_from (λ (p : A × B). eq_by_cmp R a p.0) (λ p. p.1) ps b h in
        let is : p.0 ≡ (a, b) = λ i. (sym (tells_apart exact a p.0.0 p.2) i, p.3 i) in
        (among ps (a, b)).1 (subst (Contains ps) is p.1),
    λ h. picked_into (λ (p : A × B). eq_by_cmp R a p.0) (λ p. p.1) ps (
      a,
      b,
    ) ((among ps (a, b)).0 h) ((eq_by_cmp_equiv o).refl a),
  )

  -- a pair of this first is among those of this first
  pub among_alike : (ps : List (A × B)) (a : A) (b : B) →
      is_among (pair_cmp R S) (filter (λ p. eq_by_cmp R a p.0) ps) (a, b) ≡ is_among (pair_cmp R S) ps (a, b)
  among_alike ps a b =
      any-filter_same (eq_by_cmp (pair_cmp R S) (a, b)) (λ p. eq_by_cmp R a p.0) true
      (λ p e. ap (λ (q : A × B). eq_by_cmp R a q.0) (sym (tells_apart (exact_pairs R S exact exact_second) (a, b) p e))
      ∙ (eq_by_cmp_equiv o).refl a) ps
