-- What a list in blocks has, with an item put into its block or taken from it.
use Rattle.std.proofs.Common.{◌≡◌, ℕ, zero, suc, ◌+◌, ◌-◌, ◌<◌, ◌≤◌}
use Rattle.std.proofs.Common.{true, false, not, ◌&&◌, ◌||◌, ◌⊎◌, inr, cond, ◌==◌}
use Rattle.std.proofs.Common.{eq-eqb}
use Rattle.std.proofs.lemmas.Bool.{eqb-true}
use Rattle.std.proofs.Common.{List, [], ◌∷◌, ◌++◌, length, get_or, set, take, drop}
use Rattle.std.proofs.Common.{refl, sym, ap, ◌∙◌, subst, arith}
use Rattle.std.specs.Prelude.{vec_len, vec_capacity}
use Rattle.std.specs.declared.cmp.Ordering.{Ordering}
use Rattle.std.specs.declared.cmp.Ordering.TheVariants.{Less}
use Rattle.std.specs.declared.vec.Vec.{Vec}
use Rattle.std.specs.Ordering.{eq_by_cmp}
use Rattle.std.specs.List.{AllByRecursion, flat_map, remove}
use Rattle.std.specs.List.Sorted.{IsStrictlySortedBy}
use Rattle.std.specs.Cmp.{IsTotalOrder}
use Rattle.sorted_pairs.specs.Blocks.{IsRoomy, AreBlocks, items_in, has_none, without_empty, tidied}
use Rattle.sorted_pairs.specs.Lists.{is_among}
use Rattle.sorted_pairs.proofs.EachLemmas.{among_part, members_with_part, members_without_part, ascends_with_part}
use Rattle.sorted_pairs.proofs.EachLemmas.{or_either, and_second, each_at, each_map, ascends_first, ascends_second}
use Rattle.sorted_pairs.proofs.BlockLemmas.{around, around_set}

module _ {X K : Type 0} (f : X → List K) (xs : List X) (i : ℕ) (b : X)
    (at : b ≡ get_or xs i b) (within : i < length xs) where
  abbrev Before : List K
  Before = flat_map f (take i xs)

  abbrev After : List K
  After = flat_map f (drop (i + 1) xs)

  whole : flat_map f xs ≡ Before ++ (f b ++ After)
  whole = around f xs i b within ∙ ap (λ y. Before ++ (f y ++ After)) (sym at)

  pub block_ascends : (R : K → K → Ordering) → IsStrictlySortedBy R (flat_map f xs) → IsStrictlySortedBy R (f b)
  block_ascends R up =
      ascends_first R (f b) After (ascends_second R Before (f b ++ After) (subst (IsStrictlySortedBy R) whole up))

  module _ {R : K → K → Ordering} (o : IsTotalOrder R) (item : K)
      (below : AllByRecursion (λ x. R x item ≡ Less) (flat_map f (take i xs)))
      (above : AllByRecursion (λ x. R item x ≡ Less) (flat_map f (drop (i + 1) xs))) where
    pub has_item : is_among R (flat_map f xs) item ≡ is_among R (f b) item
    has_item = ap (λ l. is_among R l item) whole ∙ among_part o Before (f b) After (f b) item below above

    module _ (y : X) where
      pub members_put : (q : K) → is_among R (f y) q ≡ (eq_by_cmp R q item || is_among R (f b) q) →
          is_among R (flat_map f (set xs i y)) q ≡ (eq_by_cmp R q item || is_among R (flat_map f xs) q)
      members_put q is =
          ap (λ l. is_among R l q) (around_set f xs i y within)
          ∙ members_with_part o Before (f b) After (f y) item below above q is
          ∙ ap (λ l. eq_by_cmp R q item || is_among R l q) (sym whole)

      pub members_taken : (q : K) → is_among R (f y) q ≡ (not (eq_by_cmp R q item) && is_among R (f b) q) →
          is_among R (flat_map f (set xs i y)) q ≡ (not (eq_by_cmp R q item) && is_among R (flat_map f xs) q)
      members_taken q is =
          ap (λ l. is_among R l q) (around_set f xs i y within)
          ∙ members_without_part o Before (f b) After (f y) item below above q is
          ∙ ap (λ l. not (eq_by_cmp R q item) && is_among R l q) (sym whole)

      module _ (up : IsStrictlySortedBy R (flat_map f xs)) (rises : IsStrictlySortedBy R (f y)) where
        ascends_changed :
            ((q : K) → is_among R (f y) q ≡ true → (eq_by_cmp R q item ≡ true) ⊎ (is_among R (f b) q ≡ true))
            → IsStrictlySortedBy R (flat_map f (set xs i y))
        ascends_changed only =
            subst (IsStrictlySortedBy R) (sym (around_set f xs i y within))
            (ascends_with_part o Before (f b) After (f y) item below above (subst (IsStrictlySortedBy R) whole up) only
            rises)

        pub ascends_put : ((q : K) → is_among R (f y) q ≡ (eq_by_cmp R q item || is_among R (f b) q))
            → IsStrictlySortedBy R (flat_map f (set xs i y))
        ascends_put is = ascends_changed (λ q h. or_either (eq_by_cmp R q item) (is_among R (f b) q) (sym (is q) ∙ h))

        pub ascends_taken : ((q : K) → is_among R (f y) q ≡ (not (eq_by_cmp R q item) && is_among R (f b) q))
            → IsStrictlySortedBy R (flat_map f (set xs i y))
        ascends_taken is =
            ascends_changed (λ q h. inr (and_second (eq_by_cmp R q item) (is_among R (f b) q) (sym (is q) ∙ h)))

pub each_set : {X : Type 0} (P : X → Type 0) (xs : List X) (i : ℕ) (y : X) → AllByRecursion P xs → P y
    → AllByRecursion P (set xs i y)
each_set P [] zero y each here = tt
each_set P [] (suc i) y each here = tt
each_set P (x ∷ xs) zero y each here = (here, each.1)
each_set P (x ∷ xs) (suc i) y each here = (each.0, each_set P xs i y each.1 here)

each_set_later : {X : Type 0} (P : X → Type 0) (xs : List X) (i : ℕ) (y : X) → AllByRecursion P (drop 1 xs) →
    (0 < i → P y) → AllByRecursion P (drop 1 (set xs i y))
each_set_later P [] zero y each here = tt
each_set_later P [] (suc i) y each here = tt
each_set_later P (x ∷ xs) zero y each here = each
each_set_later P (x ∷ xs) (suc i) y each here = each_set P xs i y each (here (omega arith))

later_at : {X : Type 0} (P : X → Type 0) (xs : List X) (i : ℕ) (d : X) → i < length xs → AllByRecursion P (drop 1 xs)
    → 0 < i → P (get_or xs i d)
later_at P [] i d within each later = absurd (omega arith)
later_at P (x ∷ xs) zero d within each later = absurd (omega arith)
later_at P (x ∷ xs) (suc i) d within each later = each_at P xs i d (omega arith) each

pub length_same : {X : Type 0} (xs : List X) (i : ℕ) (y : X) → length (set xs i y) ≡ length xs
length_same [] zero y = refl
length_same [] (suc i) y = refl
length_same (x ∷ xs) zero y = refl
length_same (x ∷ xs) (suc i) y = ap suc (length_same xs i y)

module _ {X Z : Type 0} where
  abbrev pub IsFilled : Vec X Z → Type 0
  IsFilled b = 0 < length b.items

  -- what is tidied has the same items
  same_without : (i : ℕ) (bs : List (Vec X Z)) → items_in (without_empty i bs) ≡ items_in bs
  same_without i [] = refl
  same_without zero (b ∷ bs) =
      elim (b.items) as (λ l. b.items ≡ l → items_in (cond (has_none l) bs (b ∷ bs)) ≡ b.items ++ items_in bs) [
        | [] ↦ λ e. sym (ap (λ l. l ++ items_in bs) e)
        | x ∷ l ↦ λ e. refl
      ] refl
  same_without (suc i) (b ∷ bs) = ap (λ l. b.items ++ l) (same_without i bs)

  pub same_tidied : (i : ℕ) (bs : List (Vec X Z)) → items_in (tidied i bs) ≡ items_in bs
  same_tidied zero bs = refl
  same_tidied (suc i) [] = refl
  same_tidied (suc i) (b ∷ bs) = ap (λ l. b.items ++ l) (same_without i bs)

  each_without : (P : Vec X Z → Type 0) (i : ℕ) (bs : List (Vec X Z)) → AllByRecursion P bs
      → AllByRecursion P (without_empty i bs)
  each_without P i [] each = tt
  each_without P zero (b ∷ bs) each =
      elim (has_none b.items) as (λ t. AllByRecursion P (cond t bs (b ∷ bs))) [ true ↦ each.1 | false ↦ each ]
  each_without P (suc i) (b ∷ bs) each = (each.0, each_without P i bs each.1)

  each_tidied : (P : Vec X Z → Type 0) (i : ℕ) (bs : List (Vec X Z)) → AllByRecursion P bs
      → AllByRecursion P (tidied i bs)
  each_tidied P zero bs each = each
  each_tidied P (suc i) [] each = tt
  each_tidied P (suc i) (b ∷ bs) each = (each.0, each_without P i bs each.1)

  some_tidied : (i : ℕ) (bs : List (Vec X Z)) → 0 < length bs → 0 < length (tidied i bs)
  some_tidied zero bs some = some
  some_tidied (suc i) [] some = some
  some_tidied (suc i) (b ∷ bs) some = omega arith

  filled_without : (bs : List (Vec X Z)) (i : ℕ) (y : Vec X Z) → AllByRecursion IsFilled bs
      → AllByRecursion IsFilled (without_empty i (set bs i y))
  filled_without [] zero y each = tt
  filled_without [] (suc i) y each = tt
  filled_without (b ∷ bs) zero y each =
      elim (y.items) as (λ l. y.items ≡ l → AllByRecursion IsFilled (cond (has_none l) bs (y ∷ bs))) [
        | [] ↦ λ _. each.1
        | x ∷ l ↦ λ e. (let long : length y.items ≡ length (x ∷ l) = ap length e in omega arith, each.1)
      ] refl
  filled_without (b ∷ bs) (suc i) y each = (each.0, filled_without bs i y each.1)

  filled_tidied : (bs : List (Vec X Z)) (i : ℕ) (y : Vec X Z) → AllByRecursion IsFilled (drop 1 bs)
      → AllByRecursion IsFilled (drop 1 (tidied i (set bs i y)))
  filled_tidied [] zero y each = tt
  filled_tidied [] (suc i) y each = tt
  filled_tidied (b ∷ bs) zero y each = each
  filled_tidied (b ∷ bs) (suc i) y each = filled_without bs i y each

  tidied_away : (bs : List (Vec X Z)) (i : ℕ) → remove bs i ≡ without_empty i bs → 0 < i → remove bs i ≡ tidied i bs
  tidied_away bs zero is later = absurd (omega arith)
  tidied_away [] (suc i) is later = is
  tidied_away (b ∷ bs) (suc i) is later = is

  tidied_same : (bs : List (Vec X Z)) (i : ℕ) → bs ≡ without_empty i bs → bs ≡ tidied i bs
  tidied_same bs zero is = refl
  tidied_same [] (suc i) is = is
  tidied_same (b ∷ bs) (suc i) is = is

  pub tidied_first : (bs : List (Vec X Z)) (i : ℕ) → i ≤ 0 → bs ≡ tidied i bs
  tidied_first bs zero first = refl
  tidied_first bs (suc i) first = absurd (omega arith)

  -- what `drop_if_empty` leaves
  none_in : (b : Vec X Z) → (vec_len b == 0) ≡ true → has_none b.items ≡ true
  none_in b empty =
      let no : vec_len b ≡ 0 = eqb-true (vec_len b) 0 empty in
      elim (b.items) as (λ l. b.items ≡ l → has_none l ≡ true) [
        | [] ↦ λ _. refl
        | x ∷ l ↦ λ e. let long : length b.items ≡ length (x ∷ l) = ap length e in absurd (omega (arith, b.ok.0))
      ] refl

  pub some_in : (b : Vec X Z) → (vec_len b == 0) ≡ false → has_none b.items ≡ false
  some_in b filled =
      elim (b.items) as (λ l. b.items ≡ l → has_none l ≡ false) [
        | [] ↦ λ e.
            let no : vec_len b ≡ 0 = b.ok.0 ∙ ap length e in
            sym (eq-eqb (vec_len b) 0 no) ∙ filled
        | x ∷ l ↦ λ _. refl
      ] refl

  removed_is : (bs : List (Vec X Z)) (i : ℕ) (d : Vec X Z) → i < length bs → has_none (get_or bs i d).items ≡ true →
      remove bs i ≡ without_empty i bs
  removed_is [] i d within none = absurd (omega arith)
  removed_is (b ∷ bs) zero d within none = sym (ap (λ t. cond t bs (b ∷ bs)) none)
  removed_is (b ∷ bs) (suc i) d within none = ap (λ l. b ∷ l) (removed_is bs i d (omega arith) none)

  left_is : (bs : List (Vec X Z)) (i : ℕ) (d : Vec X Z) → i < length bs → has_none (get_or bs i d).items ≡ false →
      bs ≡ without_empty i bs
  left_is [] i d within some = refl
  left_is (b ∷ bs) zero d within some = sym (ap (λ t. cond t bs (b ∷ bs)) some)
  left_is (b ∷ bs) (suc i) d within some = ap (λ l. b ∷ l) (left_is bs i d (omega arith) some)

  module _ (bs : List (Vec X Z)) (b : Vec X Z) where
    pub tidied_empty : (i : ℕ) → b ≡ get_or bs i b → i < length bs → 0 < i → (vec_len b == 0) ≡ true →
        remove bs i ≡ tidied i bs
    tidied_empty i at within later empty =
        tidied_away bs i (removed_is bs i b within (ap (λ (c : Vec X Z). has_none c.items) (sym at) ∙ none_in b empty))
        later

    pub tidied_full : (i : ℕ) → b ≡ get_or bs i b → i < length bs → (vec_len b == 0) ≡ false → bs ≡ tidied i bs
    tidied_full i at within full =
        tidied_same bs i
        (left_is bs i b within (ap (λ (c : Vec X Z). has_none c.items) (sym at) ∙ some_in b full))

  module _ (bs : List (Vec X Z)) (i : ℕ) (b y : Vec X Z) (at : b ≡ get_or bs i b) (within : i < length bs)
      (capacity : vec_capacity b ≤ vec_capacity y) where
    here_roomy : (room : ℕ) → AreBlocks room bs → IsRoomy room b
    here_roomy room are = subst (IsRoomy room) (sym at) (each_at (IsRoomy room) bs i b within are.roomy)

    pub are_blocks_put : vec_len b ≤ vec_len y → vec_len y ≤ vec_len b + 1 → (room : ℕ) → 0 < room →
        AreBlocks room bs → AreBlocks (room - 1) (set bs i y)
    are_blocks_put grows by_one room some are =
        let was : IsRoomy room b = here_roomy room are in
        let long : length (set bs i y) ≡ length bs = length_same bs i y in
        record {
          roomy =
              each_set (IsRoomy (room - 1)) bs i y (each_map (IsRoomy room) (IsRoomy (room - 1))
              (λ c r. record { len = omega (arith, r.len); capacity = r.capacity }) bs are.roomy)
              (record { len = omega (arith, was.len); capacity = omega (arith, was.capacity) });
          some = λ _. omega arith;
          filled = each_set_later IsFilled bs i y are.filled (λ later.
              let had : IsFilled b = subst IsFilled (sym at) (later_at IsFilled bs i b within are.filled later) in
              omega (arith, b.ok.0, y.ok.0));
        }

    pub are_blocks_taken : vec_len y ≤ vec_len b → (room : ℕ) → AreBlocks room bs → AreBlocks room (tidied i (set bs
        i y))
    are_blocks_taken shrinks room are =
        let was : IsRoomy room b = here_roomy room are in
        let long : length (set bs i y) ≡ length bs = length_same bs i y in
        record {
          roomy =
              each_tidied (IsRoomy room) i (set bs i y) (each_set (IsRoomy room) bs i y are.roomy
              (record { len = omega (arith, was.len); capacity = omega (arith, was.capacity) }));
          some = λ _. some_tidied i (set bs i y) (omega arith);
          filled = filled_tidied bs i y are.filled;
        }
