-- A list of pairs in blocks, from which the pairs of another list are taken, turned.
use Rattle.std.proofs.Common.{◌≡◌, ℕ, ◌+◌, ◌<◌, ◌≤◌, Bool, true, false, not, ◌&&◌, ◌||◌, List, [], ◌∷◌, ◌++◌}
use Rattle.std.proofs.Common.{cond, length, get_or, drop, filter, refl, sym, ap, ◌∙◌}
use Rattle.std.specs.declared.cmp.Ordering.{Ordering}
use Rattle.std.specs.declared.vec.Vec.{Vec}
use Rattle.std.specs.Ordering.{eq_by_cmp, nat_cmp}
use Rattle.std.specs.List.{AllByRecursion, flat_map}
use Rattle.std.specs.List.Sorted.{IsStrictlySortedBy}
use Rattle.std.specs.Cmp.{IsTotalOrder}
use Rattle.std.proofs.lemmas.Cmp.{eq_by_cmp_equiv}
use Rattle.std.proofs.lemmas.List.{drop_more}
use Rattle.std.proofs.lemmas.List.Elements.{filter-append}
use Rattle.std.proofs.lemmas.List.Folds.{list_any-append}
use Rattle.std.proofs.lemmas.Map.Lookups.{exact_unsigned}
use Rattle.std.proofs.lemmas.Map.Views.{any-filter_same, tells_apart}
use Rattle.sorted_pairs.specs.Blocks.{AreBlocks, items_in}
use Rattle.sorted_pairs.specs.Lists.{is_among}
use Rattle.sorted_pairs.specs.Pairs.{pair_cmp}
use Rattle.sorted_pairs.proofs.PairLemmas.{turned, pair_tied, first_true}

-- from the old list these pairs were taken, turned
pub record AreTaken {A B Z : Type 0} (R : A → A → Ordering) (S : B → B → Ordering) (pairs : List (B × A))
    (old new : List (Vec (A × B) Z)) : Type 0 where
  pub ascending : IsStrictlySortedBy (pair_cmp R S) (items_in new)
  pub members : (q : A × B) →
      is_among (pair_cmp R S) (items_in new) q
      ≡ (not (is_among (pair_cmp S R) pairs (q.1, q.0)) && is_among (pair_cmp R S) (items_in old) q)
  pub room : (room : ℕ) → AreBlocks room old → AreBlocks room new

-- the same, of the pairs from this place of so many on
pub record IsTakenFrom {A B Z : Type 0} (R : A → A → Ordering) (S : B → B → Ordering) (place count : ℕ)
    (pairs : List (B × A)) (old new : List (Vec (A × B) Z)) : Type 0 where
  pub within : place ≤ count
  pub taken : AreTaken R S pairs old new

both_not : (a b c : Bool) → (not a && (not b && c)) ≡ (not (a || b) && c)
both_not true b c = refl
both_not false b c = refl

or_none : (b : Bool) → (b || false) ≡ b
or_none true = refl
or_none false = refl

module _ {A B Z : Type 0} (R : A → A → Ordering) (S : B → B → Ordering) where
  pub none_taken : (old : List (Vec (A × B) Z)) → IsStrictlySortedBy (pair_cmp R S) (items_in old)
      → AreTaken R S [] old old
  none_taken old up = record { ascending = up; members = λ q. refl; room = λ room are. are }

  -- the later ones were taken before
  pub taken_before : (first second : List (B × A)) (old between new : List (Vec (A × B) Z)) →
      AreTaken R S second old between → AreTaken R S first between new → AreTaken R S (first ++ second) old new
  taken_before first second old between new b a = record {
    ascending = a.ascending;
    members = λ q.
        a.members q
        ∙ ap (λ x. not (is_among (pair_cmp S R) first (q.1, q.0)) && x) (b.members q)
        ∙ both_not (is_among (pair_cmp S R) first (q.1, q.0)) (is_among (pair_cmp S R) second (q.1, q.0))
        (is_among (pair_cmp R S) (items_in old) q)
        ∙ ap (λ x. not x && is_among (pair_cmp R S) (items_in old) q)
        (sym (list_any-append (eq_by_cmp (pair_cmp S R) (q.1, q.0)) first second));
    room = λ room are. a.room room (b.room room are);
  }

  -- one pair
  pub taken_one : (p : B × A) (old new : List (Vec (A × B) Z)) →
      IsStrictlySortedBy (pair_cmp R S) (items_in new) →
      ((q : A × B) → is_among (pair_cmp R S) (items_in new) q
      ≡ (not (eq_by_cmp (pair_cmp R S) q (p.1, p.0)) && is_among (pair_cmp R S) (items_in old) q)) →
      ((room : ℕ) → AreBlocks room old → AreBlocks room new) → AreTaken R S (p ∷ []) old new
  taken_one p old new up members room = record {
    ascending = up;
    members = λ q.
        members q
        ∙ ap (λ x. not x && is_among (pair_cmp R S) (items_in old) q)
        (turned (R q.0 p.1) (S q.1 p.0) ∙ sym (or_none (eq_by_cmp (pair_cmp S R) (q.1, q.0) p)));
    room = room;
  }

  -- what a list says of its pairs is so of an equal one
  pub taken_as : {given : List (B × A)} (pairs : List (B × A)) (old new : List (Vec (A × B) Z)) → given ≡ pairs →
      IsStrictlySortedBy (pair_cmp R S) (items_in new) →
      ((q : A × B) → is_among (pair_cmp R S) (items_in new) q
      ≡ (not (is_among (pair_cmp S R) given (q.1, q.0)) && is_among (pair_cmp R S) (items_in old) q)) →
      ((room : ℕ) → AreBlocks room old → AreBlocks room new) → AreTaken R S pairs old new
  taken_as pairs old new is up members room = record {
    ascending = up;
    members = λ q.
        members q
        ∙ ap (λ l. not (is_among (pair_cmp S R) l (q.1, q.0)) && is_among (pair_cmp R S) (items_in old) q) is;
    room = room;
  }

-- one more item in front, and the items of one more block
pub item_here : {X : Type 0} (xs : List X) (i : ℕ) (x : X) → i < length xs → x ≡ get_or xs i x →
    drop i xs ≡ x ∷ drop (i + 1) xs
item_here xs i x within is = drop_more xs i x within ∙ ap (λ y. y ∷ drop (i + 1) xs) (sym is)

pub block_here : {X K : Type 0} (f : X → List K) (p : K → Bool) (xs : List X) (i : ℕ) (x : X) → i < length xs →
    x ≡ get_or xs i x → filter p (flat_map f (drop i xs)) ≡ filter p (f x) ++ filter p (flat_map f (drop (i + 1) xs))
block_here f p xs i x within is =
    ap (λ l. filter p (flat_map f l)) (item_here xs i x within is)
    ∙ filter-append p (f x) (flat_map f (drop (i + 1) xs))

and_known : (e r : Bool) → (not (e && r) && r) ≡ (not e && r)
and_known true true = refl
and_known true false = refl
and_known false r = refl

module _ {A B : Type 0} (R : A → A → Ordering) {S : B → B → Ordering} (o : IsTotalOrder S) where
  of_second : (second b other : B) → eq_by_cmp S b other ≡ true → eq_by_cmp S second other ≡ eq_by_cmp S b second
  of_second second b other e =
      (eq_by_cmp_equiv o).symm second other ∙ sym ((eq_by_cmp_equiv o).congr b other second e)

  -- where the pairs of a second were taken, those of others are left
  pub others_left : (second : B) (turned range : List (B × A)) (old : List (A × B)) (a : A) (b : B) (left : Bool) →
      filter (λ p. eq_by_cmp S second p.0) range ≡ filter (λ p. eq_by_cmp S second p.0) turned →
      is_among (pair_cmp S R) turned (b, a) ≡ is_among (pair_cmp R S) old (a, b) →
      left ≡ (not (is_among (pair_cmp S R) (filter (λ p. eq_by_cmp S second p.0) range) (b, a))
      && is_among (pair_cmp R S) old (a, b)) →
      left ≡ (not (eq_by_cmp S b second) && is_among (pair_cmp R S) old (a, b))
  others_left second turned range old a b left same both is =
      let alike : is_among (pair_cmp S R) (filter (λ p. eq_by_cmp S second p.0) range) (b, a)
      ≡ (eq_by_cmp S b second && is_among (pair_cmp R S) old (a, b)) =
      ap (λ l. is_among (pair_cmp S R) l (b, a)) same
      ∙ any-filter_same (eq_by_cmp (pair_cmp S R) (b, a)) (λ p. eq_by_cmp S second p.0) (eq_by_cmp S b second)
      (λ p e. of_second second b p.0 (first_true _ _ (sym (pair_tied (S b p.0) (R a p.1)) ∙ e))) turned
      ∙ ap (λ x. eq_by_cmp S b second && x) both in
      is ∙ ap (λ x. not x && is_among (pair_cmp R S) old (a, b)) alike
      ∙ and_known (eq_by_cmp S b second) (is_among (pair_cmp R S) old (a, b))

-- pairs of one first have it
pub alike_here : (first : ℕ) (ps : List (ℕ × ℕ)) →
    AllByRecursion (λ p. p.0 ≡ first) (filter (λ p. eq_by_cmp nat_cmp first p.0) ps)
alike_here first [] = tt
alike_here first (p ∷ ps) =
    elim (eq_by_cmp nat_cmp first p.0) as (λ b. eq_by_cmp nat_cmp first p.0 ≡ b →
    AllByRecursion (λ q. q.0 ≡ first) (cond b (p ∷ filter (λ q. eq_by_cmp nat_cmp first q.0) ps)
    (filter (λ q. eq_by_cmp nat_cmp first q.0) ps))) [
      | true ↦ λ e. (sym (tells_apart exact_unsigned first p.0 e), alike_here first ps)
      | false ↦ λ _. alike_here first ps
    ] refl
