-- A list in blocks, as what does not pass is taken from its blocks, and then the empty blocks are dropped together.
use Rattle.std.proofs.Common.{◌≡◌, ℕ, zero, suc, ◌+◌, ◌-◌, ◌<◌, ◌≤◌}
use Rattle.std.proofs.Common.{Bool, true, false, cond, not, ◌==◌, List, [], ◌∷◌, ◌++◌, length}
use Rattle.std.proofs.Common.{get_or, set, take, drop, filter, refl, sym, ap, ◌∙◌, subst, arith}
use Rattle.std.specs.Prelude.{vec_len, vec_capacity}
use Rattle.std.specs.declared.vec.Vec.{Vec}
use Rattle.std.specs.List.{AllByRecursion}
use Rattle.std.proofs.lemmas.List.{take-append-drop}
use Rattle.sorted_pairs.specs.Blocks.{IsRoomy, AreBlocks, items_in, has_none}
use Rattle.sorted_pairs.proofs.EachLemmas.{each_append, each_at, each_drop}
use Rattle.sorted_pairs.proofs.BlockLemmas.{around, around_set}
use Rattle.sorted_pairs.proofs.KeepLemmas.{filter_all, filter_three, filter_twice, passing, all_passing, each_passing}
use Rattle.sorted_pairs.proofs.PlaceLemmas.{each_set, length_same, some_in}

-- after the block at a place changed
drop_set : {X : Type 0} (P : X → Type 0) (xs : List X) (i : ℕ) (y : X) → P y → AllByRecursion P (drop (suc i) xs) →
    AllByRecursion P (drop i (set xs i y))
drop_set P [] zero y here each = tt
drop_set P [] (suc i) y here each = tt
drop_set P (x ∷ xs) zero y here each = (here, each)
drop_set P (x ∷ xs) (suc i) y here each = drop_set P xs i y here each

take_set : {X : Type 0} (P : X → Type 0) (xs : List X) (i s : ℕ) (y : X) → s ≤ i → AllByRecursion P (take s xs) →
    AllByRecursion P (take s (set xs i y))
take_set P xs i zero y within each = tt
take_set P [] zero (suc s) y within each = tt
take_set P [] (suc i) (suc s) y within each = tt
take_set P (x ∷ xs) zero (suc s) y within each = absurd (omega arith)
take_set P (x ∷ xs) (suc i) (suc s) y within each = (each.0, take_set P xs i s y (omega arith) each.1)

module _ {X Z : Type 0} (p : X → Bool) where
  abbrev Passes : Vec X Z → Type 0
  Passes b = AllByRecursion (λ x. p x ≡ true) b.items

  -- all before the start and from this place on pass; of all, the same pass as before; no block is gone, and the room
  -- in each is no less
  pub record IsPicked (start place : ℕ) (old new : List (Vec X Z)) : Type 0 where
    pub fits : place ≤ length new
    pub onward : start ≤ place
    pub many : length new ≡ length old
    pub same : filter p (items_in new) ≡ filter p (items_in old)
    pub passes : AllByRecursion (λ b. AllByRecursion (λ x. p x ≡ true) b.items) (drop place new)
    pub front : AllByRecursion (λ b. AllByRecursion (λ x. p x ≡ true) b.items) (take start new)
    pub room : (room : ℕ) → AllByRecursion (IsRoomy room) old → AllByRecursion (IsRoomy room) new

  pub picked_first : (start end : ℕ) (bs : List (Vec X Z)) → start ≤ end → end ≤ length bs →
      AllByRecursion (λ x. p x ≡ true) (items_in (take start bs)) →
      AllByRecursion (λ x. p x ≡ true) (items_in (drop end bs)) → IsPicked start end bs bs
  picked_first start end bs onward fits before after = record {
    fits = fits;
    onward = onward;
    many = refl;
    same = refl;
    passes = each_passing p (drop end bs) after;
    front = each_passing p (take start bs) before;
    room = λ room are. are;
  }

  pub picked_more : (start : ℕ) (old bs : List (Vec X Z)) (place i : ℕ) (b y : Vec X Z) →
      IsPicked start place old bs → start < place → i ≡ place - 1 → b ≡ get_or bs i b → y.items ≡ filter p b.items →
      vec_len y ≤ vec_len b → vec_capacity b ≤ vec_capacity y → IsPicked start i old (set bs i y)
  picked_more start old bs place i b y picked some less at items shrinks capacity =
      let within : i < length bs = omega (arith, picked.fits) in
      let e : place ≡ suc i = omega arith in
      let long : length (set bs i y) ≡ length bs = length_same bs i y in
      let before : List X = items_in (take i bs) in
      let after : List X = items_in (drop (i + 1) bs) in
      let whole : items_in bs ≡ before ++ (b.items ++ after) =
      around (λ (v : Vec X Z). v.items) bs i b within ∙ ap (λ (v : Vec X Z). before ++ (v.items ++ after)) (sym at) in
      record {
        fits = omega arith;
        onward = omega arith;
        many = omega (arith, long, picked.many);
        same =
            ap (filter p) (around_set (λ (v : Vec X Z). v.items) bs i y within) ∙ filter_three p before y.items after
            ∙ ap (λ l. filter p before ++ (filter p l ++ filter p after)) items
            ∙ ap (λ l. filter p before ++ (l ++ filter p after)) (filter_twice p b.items)
            ∙ sym (filter_three p before b.items after) ∙ ap (filter p) (sym whole) ∙ picked.same;
        passes =
            drop_set Passes bs i y (subst (AllByRecursion (λ x. p x ≡ true)) (sym items) (passing p b.items))
            (subst (λ k. AllByRecursion Passes (drop k bs)) e picked.passes);
        front = take_set Passes bs i start y (omega arith) picked.front;
        room = λ room are.
            let each = picked.room room are in
            let was : IsRoomy room b = subst (IsRoomy room) (sym at) (each_at (IsRoomy room) bs i b within each) in
            each_set (IsRoomy room) bs i y each
            (record { len = omega (arith, was.len); capacity = omega (arith, was.capacity) });
      }

  pub picked_all : (start place : ℕ) (old new : List (Vec X Z)) → place ≤ start → IsPicked start place old new →
      items_in new ≡ filter p (items_in old)
  picked_all start place old new done picked =
      let onward = picked.onward in
      let e : place ≡ start = omega arith in
      let back : AllByRecursion Passes (drop start new) =
      subst (λ k. AllByRecursion Passes (drop k new)) e picked.passes in
      let all : AllByRecursion Passes new =
      subst (AllByRecursion Passes) (take-append-drop start new)
      (each_append Passes (take start new) (drop start new) picked.front back) in
      sym (filter_all p (items_in new) (all_passing p new all)) ∙ picked.same

-- The empty blocks.

nothing_in : {X : Type 0} (xs : List X) → has_none xs ≡ true → xs ≡ []
nothing_in [] e = refl
nothing_in (x ∷ xs) e = cc

first_nothing : {X : Type 0} (xs ys : List X) → xs ++ ys ≡ [] → xs ≡ []
first_nothing [] ys e = refl
first_nothing (x ∷ xs) ys e = cc

each_filter : {X : Type 0} (P : X → Type 0) (q : X → Bool) (xs : List X) → AllByRecursion P xs →
    AllByRecursion P (filter q xs)
each_filter P q [] each = tt
each_filter P q (x ∷ xs) each =
    elim (q x) as (λ b. AllByRecursion P (cond b (x ∷ filter q xs) (filter q xs))) [
      | true ↦ (each.0, each_filter P q xs each.1)
      | false ↦ each_filter P q xs each.1
    ]

some_before : {X : Type 0} (xs ys : List X) → has_none xs ≡ false → has_none (xs ++ ys) ≡ false
some_before [] ys e = cc
some_before (x ∷ xs) ys e = refl

filled_is : {X : Type 0} (xs : List X) → has_none xs ≡ false → 0 < length xs
filled_is [] e = cc
filled_is (x ∷ xs) e = omega arith

module _ {X Z : Type 0} where
  abbrev has_some : Vec X Z → Bool
  has_some b = not (has_none b.items)

  pub same_filled : (bs : List (Vec X Z)) → items_in (filter (λ b. not (has_none b.items)) bs) ≡ items_in bs
  same_filled [] = refl
  same_filled (b ∷ bs) =
      elim (has_none b.items) as (λ t. has_none b.items ≡ t →
      items_in (cond (not t) (b ∷ filter has_some bs) (filter has_some bs)) ≡ b.items ++ items_in bs) [
        | true ↦ λ e. same_filled bs ∙ ap (λ l. l ++ items_in bs) (sym (nothing_in b.items e))
        | false ↦ λ e. ap (λ l. b.items ++ l) (same_filled bs)
      ] refl

  all_filled : (bs : List (Vec X Z)) → AllByRecursion (λ b. 0 < length b.items) (filter has_some bs)
  all_filled [] = tt
  all_filled (b ∷ bs) =
      elim (has_none b.items) as (λ t. has_none b.items ≡ t →
      AllByRecursion (λ c. 0 < length c.items) (cond (not t) (b ∷ filter has_some bs) (filter has_some bs))) [
        | true ↦ λ e. all_filled bs
        | false ↦ λ e. (filled_is b.items e, all_filled bs)
      ] refl

  some_block : (bs : List (Vec X Z)) → has_none (items_in bs) ≡ false → 0 < length bs
  some_block [] e = cc
  some_block (b ∷ bs) e = omega arith

  -- the first block that is not empty
  pub some_found : (bs : List (Vec X Z)) (i : ℕ) (b : Vec X Z) → i < length bs → b ≡ get_or bs i b →
      items_in (take i bs) ≡ [] → (vec_len b == 0) ≡ false → true ≡ not (has_none (items_in bs))
  some_found bs i b within at none some =
      let after : List X = items_in (drop (i + 1) bs) in
      let whole : items_in bs ≡ b.items ++ after =
      around (λ (v : Vec X Z). v.items) bs i b within ∙ ap (λ l. l ++ ((get_or bs i b).items ++ after)) none
      ∙ ap (λ (v : Vec X Z). v.items ++ after) (sym at) in
      sym (ap (λ l. not (has_none l)) whole ∙ ap not (some_before b.items after (some_in b some)))

  -- all that have items are kept ..
  pub blocks_filled : (bs : List (Vec X Z)) (room : ℕ) → not (has_none (items_in bs)) ≡ true →
      AllByRecursion (IsRoomy room) bs → AreBlocks room (filter (λ b. not (has_none b.items)) bs)
  blocks_filled bs room some roomy =
      let any : has_none (items_in (filter has_some bs)) ≡ false =
      ap has_none (same_filled bs) ∙ was (has_none (items_in bs)) some in
      record {
        roomy = each_filter (IsRoomy room) has_some bs roomy;
        some = λ _. some_block (filter has_some bs) any;
        filled = each_drop (λ b. 0 < length b.items) 1 (filter has_some bs) (all_filled bs);
      }
    where
      was : (b : Bool) → not b ≡ true → b ≡ false
      was true e = cc
      was false e = refl

  -- .. or the first, where none has
  pub same_first : (bs : List (Vec X Z)) → not (has_none (items_in bs)) ≡ false →
      items_in (take 1 bs) ≡ items_in bs
  same_first [] none = refl
  same_first (b ∷ bs) none =
      let nothing = nothing_in (b.items ++ items_in bs) (was (has_none (b.items ++ items_in bs)) none) in
      ap (λ l. l ++ []) (first_nothing b.items (items_in bs) nothing) ∙ sym nothing
    where
      was : (b : Bool) → not b ≡ false → b ≡ true
      was true e = refl
      was false e = cc

  pub blocks_first : (bs : List (Vec X Z)) (room : ℕ) → AllByRecursion (IsRoomy room) bs →
      (0 < room → 0 < length bs) → AreBlocks room (take 1 bs)
  blocks_first [] room roomy some = record { roomy = tt; some = some; filled = tt }
  blocks_first (b ∷ bs) room roomy some = record { roomy = (roomy.0, tt); some = λ _. omega arith; filled = tt }
