-- A list in blocks, as what does not pass is taken from one block after another.
use Rattle.std.proofs.Common.{◌≡◌, ℕ, zero, suc, ◌+◌, ◌-◌, ◌<◌, ◌≤◌}
use Rattle.std.proofs.Common.{Bool, true, false, cond, List, [], ◌∷◌, ◌++◌, length}
use Rattle.std.proofs.Common.{get_or, set, take, drop, filter, refl, sym, ap, ◌∙◌, subst, arith}
use Rattle.std.specs.Prelude.{vec_len, vec_capacity}
use Rattle.std.specs.declared.vec.Vec.{Vec}
use Rattle.std.specs.List.{AllByRecursion}
use Rattle.std.proofs.lemmas.List.{take-append-drop}
use Rattle.std.proofs.lemmas.List.Elements.{filter-append}
use Rattle.sorted_pairs.specs.Blocks.{AreBlocks, items_in, has_none, without_empty, tidied}
use Rattle.sorted_pairs.proofs.EachLemmas.{each_append, each_first, each_second}
use Rattle.sorted_pairs.proofs.BlockLemmas.{around, around_set}
use Rattle.sorted_pairs.proofs.PlaceLemmas.{are_blocks_taken, same_tidied}

module _ {X : Type 0} (p : X → Bool) where
  pub passing : (xs : List X) → AllByRecursion (λ x. p x ≡ true) (filter p xs)
  passing [] = tt
  passing (x ∷ xs) =
      elim (p x) as (λ b. p x ≡ b → AllByRecursion (λ y. p y ≡ true) (cond b (x ∷ filter p xs) (filter p xs))) [
        | true ↦ λ e. (e, passing xs)
        | false ↦ λ e. passing xs
      ] refl

  pub filter_all : (xs : List X) → AllByRecursion (λ x. p x ≡ true) xs → filter p xs ≡ xs
  filter_all [] all = refl
  filter_all (x ∷ xs) all = rw (all.0) (ap (λ l. x ∷ l) (filter_all xs all.1))

  pub filter_twice : (xs : List X) → filter p (filter p xs) ≡ filter p xs
  filter_twice xs = filter_all (filter p xs) (passing xs)

  pub filter_three : (xs ys zs : List X) → filter p (xs ++ (ys ++ zs)) ≡ filter p xs ++ (filter p ys ++ filter p zs)
  filter_three xs ys zs =
      filter-append p xs (ys ++ zs) ∙ ap (λ l. filter p xs ++ l) (filter-append p ys zs)

module _ {X Z : Type 0} (p : X → Bool) where
  abbrev Passes : Vec X Z → Type 0
  Passes b = AllByRecursion (λ x. p x ≡ true) b.items

  pub all_passing : (bs : List (Vec X Z)) → AllByRecursion Passes bs → AllByRecursion (λ x. p x ≡ true) (items_in bs)
  all_passing [] each = tt
  all_passing (b ∷ bs) each = each_append (λ x. p x ≡ true) b.items (items_in bs) each.0 (all_passing bs each.1)

  -- what is left from a place on, when that place is tidied
  kept_without : (bs : List (Vec X Z)) (i : ℕ) (y : Vec X Z) → Passes y → AllByRecursion Passes (drop (suc i) bs) →
      AllByRecursion Passes (drop i (without_empty i (set bs i y)))
  kept_without [] zero y here each = tt
  kept_without [] (suc i) y here each = tt
  kept_without (b ∷ bs) zero y here each =
      elim (has_none y.items) as (λ t. AllByRecursion Passes (cond t bs (y ∷ bs))) [
        | true ↦ each
        | false ↦ (
          here,
          each,
        )
      ]
  kept_without (b ∷ bs) (suc i) y here each = kept_without bs i y here each

  kept_tidied : (bs : List (Vec X Z)) (i : ℕ) (y : Vec X Z) → Passes y → AllByRecursion Passes (drop (suc i) bs) →
      AllByRecursion Passes (drop i (tidied i (set bs i y)))
  kept_tidied [] zero y here each = tt
  kept_tidied [] (suc i) y here each = tt
  kept_tidied (b ∷ bs) zero y here each = (here, each)
  kept_tidied (b ∷ bs) (suc i) y here each = kept_without bs i y here each

  fits_without : (bs : List (Vec X Z)) (i : ℕ) (y : Vec X Z) → i < length bs → i ≤ length (without_empty i (set bs i y))
  fits_without [] i y within = absurd (omega arith)
  fits_without (b ∷ bs) zero y within = omega arith
  fits_without (b ∷ bs) (suc i) y within = let e = fits_without bs i y (omega arith) in omega arith

  fits_tidied : (bs : List (Vec X Z)) (i : ℕ) (y : Vec X Z) → i < length bs → i ≤ length (tidied i (set bs i y))
  fits_tidied bs zero y within = omega arith
  fits_tidied [] (suc i) y within = absurd (omega arith)
  fits_tidied (b ∷ bs) (suc i) y within = let e = fits_without bs i y (omega arith) in omega arith

  -- all from this place on pass; of all, the same pass as before; and the room is no less
  pub record IsKeptFrom (place : ℕ) (old new : List (Vec X Z)) : Type 0 where
    pub fits : place ≤ length new
    pub same : filter p (items_in new) ≡ filter p (items_in old)
    pub passes : AllByRecursion (λ b. AllByRecursion (λ x. p x ≡ true) b.items) (drop place new)
    pub room : (room : ℕ) → AreBlocks room old → AreBlocks room new

  pub kept_first : (bs : List (Vec X Z)) → AllByRecursion Passes (drop (length bs) bs) → IsKeptFrom (length bs) bs bs
  kept_first bs none = record { fits = omega arith; same = refl; passes = none; room = λ room are. are }

  pub kept_all : (place : ℕ) (old new : List (Vec X Z)) → place ≤ 0 → IsKeptFrom place old new
      → items_in new ≡ filter p (items_in old)
  kept_all place old new none kept =
      let e : place ≡ 0 = omega arith in
      let all : AllByRecursion Passes new = subst (λ k. AllByRecursion Passes (drop k new)) e kept.passes in
      sym (filter_all p (items_in new) (all_passing new all)) ∙ kept.same

  pub kept_more : (old bs new : List (Vec X Z)) (place i : ℕ) (b y : Vec X Z) → IsKeptFrom place old bs → 0 < place →
      i ≡ place - 1 → b ≡ get_or bs i b → y.items ≡ filter p b.items → vec_len y ≤ vec_len b →
      vec_capacity b ≤ vec_capacity y → new ≡ tidied i (set bs i y) → IsKeptFrom i old new
  kept_more old bs new place i b y kept some less at items shrinks capacity is =
      let within : i < length bs = omega (arith, kept.fits) in
      let e : place ≡ suc i = omega arith in
      let before : List X = items_in (take i bs) in
      let after : List X = items_in (drop (i + 1) bs) in
      let whole : items_in bs ≡ before ++ (b.items ++ after) =
      around (λ (v : Vec X Z). v.items) bs i b within ∙ ap (λ (v : Vec X Z). before ++ (v.items ++ after)) (sym at) in
      record {
        fits = subst (λ l. i ≤ length l) (sym is) (fits_tidied bs i y within);
        same =
            ap (λ l. filter p (items_in l)) is ∙ ap (filter p) (same_tidied i (set bs i y))
            ∙ ap (filter p) (around_set (λ (v : Vec X Z). v.items) bs i y within) ∙ filter_three p before y.items after
            ∙ ap (λ l. filter p before ++ (filter p l ++ filter p after)) items
            ∙ ap (λ l. filter p before ++ (l ++ filter p after)) (filter_twice p b.items)
            ∙ sym (filter_three p before b.items after) ∙ ap (filter p) (sym whole) ∙ kept.same;
        passes =
            subst (λ l. AllByRecursion Passes (drop i l)) (sym is) (kept_tidied bs i y
            (subst (AllByRecursion (λ x. p x ≡ true)) (sym items) (passing p b.items))
            (subst (λ k. AllByRecursion Passes (drop k bs)) e kept.passes));
        room = λ room are.
            subst (AreBlocks room) (sym is)
            (are_blocks_taken bs i b y at within capacity shrinks room (kept.room room are));
      }

  pub each_passing : (bs : List (Vec X Z)) → AllByRecursion (λ x. p x ≡ true) (items_in bs) → AllByRecursion Passes bs
  each_passing [] each = tt
  each_passing (b ∷ bs) each = (
    each_first (λ x. p x ≡ true) b.items (items_in bs) each,
    each_passing bs (each_second (λ x. p x ≡ true) b.items (items_in bs) each),
  )

  front_without : (bs : List (Vec X Z)) (i s : ℕ) (y : Vec X Z) → s ≤ i → AllByRecursion Passes (take s bs) →
      AllByRecursion Passes (take s (without_empty i (set bs i y)))
  front_without bs i zero y within each = tt
  front_without [] zero (suc s) y within each = absurd (omega arith)
  front_without [] (suc i) (suc s) y within each = tt
  front_without (b ∷ bs) zero (suc s) y within each = absurd (omega arith)
  front_without (b ∷ bs) (suc i) (suc s) y within each = (each.0, front_without bs i s y (omega arith) each.1)

  front_tidied : (bs : List (Vec X Z)) (i s : ℕ) (y : Vec X Z) → s ≤ i → AllByRecursion Passes (take s bs) →
      AllByRecursion Passes (take s (tidied i (set bs i y)))
  front_tidied bs i zero y within each = tt
  front_tidied [] zero (suc s) y within each = absurd (omega arith)
  front_tidied [] (suc i) (suc s) y within each = tt
  front_tidied (b ∷ bs) zero (suc s) y within each = absurd (omega arith)
  front_tidied (b ∷ bs) (suc i) (suc s) y within each = (each.0, front_without bs i s y (omega arith) each.1)

  -- the same, where all before the start pass
  pub record IsKeptBetween (start place : ℕ) (old new : List (Vec X Z)) : Type 0 where
    pub kept : IsKeptFrom place old new
    pub onward : start ≤ place
    pub front : AllByRecursion (λ b. AllByRecursion (λ x. p x ≡ true) b.items) (take start new)

  pub kept_between_first : (start end : ℕ) (bs : List (Vec X Z)) → start ≤ end → end ≤ length bs →
      AllByRecursion (λ x. p x ≡ true) (items_in (take start bs)) →
      AllByRecursion (λ x. p x ≡ true) (items_in (drop end bs)) → IsKeptBetween start end bs bs
  kept_between_first start end bs onward fits before after = record {
    kept = record { fits = fits; same = refl; passes = each_passing (drop end bs) after; room = λ room are. are };
    onward = onward;
    front = each_passing (take start bs) before;
  }

  pub kept_between_all : (start place : ℕ) (old new : List (Vec X Z)) → place ≤ start →
      IsKeptBetween start place old new → items_in new ≡ filter p (items_in old)
  kept_between_all start place old new done between =
      let onward = between.onward in
      let e : place ≡ start = omega arith in
      let back : AllByRecursion Passes (drop start new) =
      subst (λ k. AllByRecursion Passes (drop k new)) e between.kept.passes in
      let all : AllByRecursion Passes new =
      subst (AllByRecursion Passes) (take-append-drop start new)
      (each_append Passes (take start new) (drop start new) between.front back) in
      sym (filter_all p (items_in new) (all_passing new all)) ∙ between.kept.same

  pub kept_between_more : (start : ℕ) (old bs new : List (Vec X Z)) (place i : ℕ) (b y : Vec X Z) →
      IsKeptBetween start place old bs → start < place → i ≡ place - 1 → b ≡ get_or bs i b →
      y.items ≡ filter p b.items → vec_len y ≤ vec_len b → vec_capacity b ≤ vec_capacity y →
      new ≡ tidied i (set bs i y) → IsKeptBetween start i old new
  kept_between_more start old bs new place i b y between some less at items shrinks capacity is = record {
    kept = kept_more old bs new place i b y between.kept (omega arith) less at items shrinks capacity is;
    onward = omega arith;
    front = subst (λ l. AllByRecursion Passes (take start l)) (sym is)
        (front_tidied bs i start y (omega arith) between.front);
  }
