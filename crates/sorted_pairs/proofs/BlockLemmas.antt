-- Lists in blocks: where an item is looked for, and what is left where one block is changed.
use Rattle.std.proofs.Common.{◌≡◌, ℕ, zero, suc, ◌+◌, ◌-◌, ◌<◌, ◌≤◌, Bool}
use Rattle.std.proofs.Common.{true, false, List, [], ◌∷◌, ◌++◌}
use Rattle.std.proofs.Common.{min, length, get_or, set, take, drop, refl, sym, ap, ◌∙◌, subst, arith}
use Rattle.std.specs.declared.cmp.Ordering.{Ordering}
use Rattle.std.specs.declared.cmp.Ordering.TheVariants.{Less, Equal, Greater}
use Rattle.std.specs.Ordering.{is_le, ordering_reverse}
use Rattle.std.specs.List.{AllByRecursion, flat_map}
use Rattle.std.specs.List.Sorted.{IsStrictlySortedBy, IsPartitionPoint, IsPartitionedBy}
use Rattle.std.specs.Cmp.{IsTotalOrder}
use Rattle.std.proofs.lemmas.List.{take-append-drop, drop_more, drop-drop, get_or-drop, length-drop, length-set}
use Rattle.std.proofs.lemmas.List.{take-set, drop-set-lt, get_or-set_same, get_or_default}
use Rattle.std.proofs.lemmas.List.Concat.{flat_map-append}
use Rattle.sorted_pairs.specs.Blocks.{begins}
use Rattle.sorted_pairs.proofs.EachLemmas.{each_first, each_second, each_drop, each_map}
use Rattle.sorted_pairs.proofs.EachLemmas.{Below, ascends_first, ascends_second, below_from, after_head}

none_begins : {K : Type 0} (p : K → Bool) (xs : List K) → AllByRecursion (λ x. p x ≡ false) xs → begins p xs ≡ false
none_begins p [] none = refl
none_begins p (x ∷ xs) none = none.0

pub drop_later : {X : Type 0} (xs : List X) (i : ℕ) → drop (i + 1) xs ≡ drop i (drop 1 xs)
drop_later xs i = let e : i + 1 ≡ 1 + i = omega arith in ap (λ k. drop k xs) e ∙ sym (drop-drop i 1 xs)

pub same_at : {X : Type 0} (xs : List X) (i : ℕ) (c d : X) → i < length xs → get_or (drop i xs) 0 c ≡ get_or xs i d
same_at xs i c d within =
    let e : i + 0 ≡ i = omega arith in
    get_or-drop i xs 0 c ∙ ap (λ k. get_or xs k c) e ∙ get_or_default xs i c d within

module _ {X K : Type 0} (f : X → List K) where
  pub joined_from : (xs : List X) (i : ℕ) → flat_map f xs ≡ flat_map f (take i xs) ++ flat_map f (drop i xs)
  joined_from xs i = ap (flat_map f) (sym (take-append-drop i xs)) ∙ flat_map-append f (take i xs) (drop i xs)

  -- the whole list as what is before a block, in it and after it
  pub around : (xs : List X) (i : ℕ) (d : X) → i < length xs →
      flat_map f xs ≡ flat_map f (take i xs) ++ (f (get_or xs i d) ++ flat_map f (drop (i + 1) xs))
  around xs i d within =
      joined_from xs i ∙ ap (λ l. flat_map f (take i xs) ++ flat_map f l) (drop_more xs i d within)

  pub around_set : (xs : List X) (i : ℕ) (y : X) → i < length xs →
      flat_map f (set xs i y) ≡ flat_map f (take i xs) ++ (f y ++ flat_map f (drop (i + 1) xs))
  around_set xs i y within =
      let long : length (set xs i y) ≡ length xs = length-set xs i y in
      around (set xs i y) i y (omega arith)
      ∙ (λ k. flat_map f (take-set xs i y k)
      ++ (f (get_or-set_same xs i y y within k) ++ flat_map f (drop-set-lt (i + 1) xs i y (omega arith) k)))

  each_block : (Q : K → Type 0) (xs : List X) (i : ℕ) (d : X) → i < length xs → AllByRecursion Q (flat_map f xs)
      → AllByRecursion Q (f (get_or xs i d))
  each_block Q xs i d within each =
      each_first Q (f (get_or xs i d)) (flat_map f (drop (i + 1) xs))
      (each_second Q (flat_map f (take i xs)) _ (subst (AllByRecursion Q) (around xs i d within) each))

  module _ (R : K → K → Ordering) where
    pub ascends_drop : (xs : List X) (i : ℕ) → IsStrictlySortedBy R (flat_map f xs)
        → IsStrictlySortedBy R (flat_map f (drop i xs))
    ascends_drop xs i up =
        ascends_second R (flat_map f (take i xs)) _ (subst (IsStrictlySortedBy R) (joined_from xs i) up)

    pub ascends_take : (xs : List X) (i : ℕ) → IsStrictlySortedBy R (flat_map f xs)
        → IsStrictlySortedBy R (flat_map f (take i xs))
    ascends_take xs i up =
        ascends_first R _ (flat_map f (drop i xs)) (subst (IsStrictlySortedBy R) (joined_from xs i) up)

    pub ascends_at : (xs : List X) (i : ℕ) (d : X) → i < length xs → IsStrictlySortedBy R (flat_map f xs)
        → IsStrictlySortedBy R (f (get_or xs i d))
    ascends_at xs i d within up =
        ascends_first R (f (get_or xs i d)) (flat_map f (drop (i + 1) xs))
        (ascends_second R (flat_map f (take i xs)) _ (subst (IsStrictlySortedBy R) (around xs i d within) up))

  module _ {R : K → K → Ordering} where
    -- the items before a block that begins with one that passes
    module _ (p : K → Bool) (P : K → Type 0) (step : (x y : K) → R x y ≡ Less → p y ≡ true → P x) where
      before_first : (before xs zs : List K) → begins p xs ≡ true → Below R before (xs ++ zs) → AllByRecursion P before
      before_first before [] zs e below = cc
      before_first before (y ∷ ys) zs e below =
          each_map (λ x. AllByRecursion (λ z. R x z ≡ Less) (y ∷ (ys ++ zs))) P (λ x h. step x y h.0 e) before below

      pub before_place : (xs : List X) (i : ℕ) (d : X) → IsStrictlySortedBy R (flat_map f xs) → i < length xs →
          (0 < i → begins p (f (get_or xs i d)) ≡ true) → AllByRecursion P (flat_map f (take i xs))
      before_place xs zero d up within passes = tt
      before_place xs (suc i) d up within passes =
          before_first (flat_map f (take (suc i) xs)) (f (get_or xs (suc i) d)) (flat_map f (drop (suc i + 1) xs))
          (passes (omega arith))
          (below_from R (flat_map f (take (suc i) xs)) _
          (subst (IsStrictlySortedBy R) (around xs (suc i) d within) up))

      pub before_all : (xs : List X) (i : ℕ) → IsStrictlySortedBy R (flat_map f xs) → i ≤ length xs - 1 →
          ((d : X) → 0 < i → begins p (f (get_or xs i d)) ≡ true) → AllByRecursion P (flat_map f (take i xs))
      before_all [] zero up fits passes = tt
      before_all [] (suc i) up fits passes = absurd (omega arith)
      before_all (b ∷ bs) i up fits passes = before_place (b ∷ bs) i b up (omega arith) (passes b)

    -- the items from a block on that begins with one that does not pass
    module _ (p : K → Bool) (Q : K → Type 0) (here : (x : K) → p x ≡ false → Q x)
        (step : (x y : K) → R x y ≡ Less → p x ≡ false → Q y) where
      from_first : (xs zs : List K) → 0 < length xs → begins p xs ≡ false → IsStrictlySortedBy R (xs ++ zs)
          → AllByRecursion Q (xs ++ zs)
      from_first [] zs filled e up = absurd (omega arith)
      from_first (x ∷ xs) zs filled e up = (
        here x e,
        each_map (λ y. R x y ≡ Less) Q (λ y h. step x y h e) (xs ++ zs) (after_head R x (xs ++ zs) up),
      )

      pub from_place : (xs : List X) → AllByRecursion (λ b. 0 < length (f b)) xs → IsStrictlySortedBy R (flat_map f
          xs) →
          ((d : X) → 0 < length xs → begins p (f (get_or xs 0 d)) ≡ false) → AllByRecursion Q (flat_map f xs)
      from_place [] filled up fails = tt
      from_place (b ∷ bs) filled up fails = from_first (f b) (flat_map f bs) filled.0 (fails b (omega arith)) up

    -- such blocks are after all that begin with one that passes
    module _ (p : K → Bool) (step : (x y : K) → R x y ≡ Less → p x ≡ false → p y ≡ false) where
      pub begins_parted : (xs : List X) → AllByRecursion (λ b. 0 < length (f b)) xs → IsStrictlySortedBy R (flat_map
          f xs)
          → IsPartitionedBy (λ b. begins p (f b)) xs
      begins_parted xs filled up i j d le within e =
          elim (begins p (f (get_or xs i d))) as (λ b. begins p (f (get_or xs i d)) ≡ b → b ≡ true) [
            | true ↦ λ _. refl
            | false ↦ λ fails.
                let long : length (drop i xs) ≡ length xs - i = length-drop i xs in
                let first : 0 < length (drop i xs) = omega arith in
                let none : AllByRecursion (λ x. p x ≡ false) (flat_map f (drop i xs)) =
                from_place p (λ x. p x ≡ false) (λ x h. h) step (drop i xs)
                (each_drop (λ b. 0 < length (f b)) i xs filled) (ascends_drop R xs i up)
                (λ c h. ap (λ b. begins p (f b)) (same_at xs i c d (omega arith)) ∙ fails) in
                let at : begins p (f (get_or (drop i xs) (j - i) d)) ≡ false =
                none_begins p (f (get_or (drop i xs) (j - i) d))
                (each_block (λ x. p x ≡ false) (drop i xs) (j - i) d (omega arith) none) in
                let k : i + (j - i) ≡ j = omega arith in
                let there : get_or (drop i xs) (j - i) d ≡ get_or xs j d =
                get_or-drop i xs (j - i) d ∙ ap (λ n. get_or xs n d) k in
                sym at ∙ ap (λ b. begins p (f b)) there ∙ e
          ] refl

-- a partition point among the blocks after the first
module _ {X : Type 0} (q : X → Bool) (xs later : List X) (i : ℕ) (is : later ≡ drop 1 xs)
    (point : IsPartitionPoint (λ b. q b ≡ true) (λ b. q b ≡ false) later i) where
  pub passes_at : (d : X) → 0 < i → q (get_or xs i d) ≡ true
  passes_at d some =
      let e : 1 + (i - 1) ≡ i = omega arith in
      sym (ap q (ap (λ l. get_or l (i - 1) d) is ∙ get_or-drop 1 xs (i - 1) d ∙ ap (λ k. get_or xs k d) e))
      ∙ point.0 (i - 1) d (omega arith) (omega arith)

  pub fails_after : (d : X) → 0 < length (drop (i + 1) xs) → q (get_or (drop (i + 1) xs) 0 d) ≡ false
  fails_after d some =
      let rest : length (drop (i + 1) xs) ≡ length xs - (i + 1) = length-drop (i + 1) xs in
      let long : length later ≡ length xs - 1 = ap length is ∙ length-drop 1 xs in
      let e : i + 1 + 0 ≡ 1 + i = omega arith in
      ap q (get_or-drop (i + 1) xs 0 d ∙ ap (λ k. get_or xs k d) e ∙ sym (get_or-drop 1 xs i d)
      ∙ ap (λ l. get_or l i d) (sym is))
      ∙ point.1 i d (omega arith) (omega arith)

not_upto : (u : Ordering) → is_le u ≡ false → ordering_reverse u ≡ Less
not_upto Less e = cc
not_upto Equal e = cc
not_upto Greater e = refl

-- where an item is looked for
module _ {X K : Type 0} (f : X → List K) {R : K → K → Ordering} (o : IsTotalOrder R) (item : K) where
  abbrev pub IsUpto : K → Bool
  IsUpto x = is_le (R x item)

  before_upto : (x y : K) → R x y ≡ Less → IsUpto y ≡ true → R x item ≡ Less
  before_upto x y less e =
      elim (R y item) as (λ u. R y item ≡ u → is_le u ≡ true → R x item ≡ Less) [
        | Less ↦ λ is _. o.trans x y item less is
        | Equal ↦ λ is _.
            o.antisymm x item ∙ ap ordering_reverse (sym (o.congr y item x is) ∙ o.antisymm y x)
            ∙ ap (λ u. ordering_reverse (ordering_reverse u)) less
        | Greater ↦ λ _ wrong. cc
      ] refl e

  not_upto_above : (x : K) → IsUpto x ≡ false → R item x ≡ Less
  not_upto_above x e = o.antisymm item x ∙ not_upto (R x item) e

  above_later : (x y : K) → R x y ≡ Less → IsUpto x ≡ false → R item y ≡ Less
  above_later x y less e = o.trans item x y (not_upto_above x e) less

  still_above : (x y : K) → R x y ≡ Less → IsUpto x ≡ false → IsUpto y ≡ false
  still_above x y less e = ap is_le (o.antisymm y item ∙ ap ordering_reverse (above_later x y less e))

  pub parted_by_item : (xs : List X) → AllByRecursion (λ b. 0 < length (f b)) xs → IsStrictlySortedBy R (flat_map f xs)
      → IsPartitionedBy (λ b. begins IsUpto (f b)) xs
  parted_by_item xs filled up = begins_parted f IsUpto still_above xs filled up

  pub parted_later : (xs later : List X) → later ≡ drop 1 xs → AllByRecursion (λ b. 0 < length (f b)) (drop 1 xs) →
      IsStrictlySortedBy R (flat_map f xs) → IsPartitionedBy (λ b. begins IsUpto (f b)) later
  parted_later xs later is filled up =
      subst (IsPartitionedBy (λ b. begins IsUpto (f b))) (sym is)
      (parted_by_item (drop 1 xs) filled (ascends_drop f R xs 1 up))

  module _ (xs later : List X) (i : ℕ) (is : later ≡ drop 1 xs)
      (point : IsPartitionPoint (λ b. begins IsUpto (f b) ≡ true) (λ b. begins IsUpto (f b) ≡ false) later i)
      (up : IsStrictlySortedBy R (flat_map f xs)) where
    pub below_item : i ≤ length later → AllByRecursion (λ x. R x item ≡ Less) (flat_map f (take i xs))
    below_item fits =
        let long : length later ≡ length xs - 1 = ap length is ∙ length-drop 1 xs in
        before_all f IsUpto (λ x. R x item ≡ Less) before_upto xs i up (omega arith)
        (passes_at (λ b. begins IsUpto (f b)) xs later i is point)

    pub above_item : AllByRecursion (λ b. 0 < length (f b)) (drop 1 xs)
        → AllByRecursion (λ x. R item x ≡ Less) (flat_map f (drop (i + 1) xs))
    above_item filled =
        from_place f IsUpto (λ x. R item x ≡ Less) not_upto_above above_later (drop (i + 1) xs)
        (subst (AllByRecursion (λ b. 0 < length (f b))) (sym (drop_later xs i))
        (each_drop (λ b. 0 < length (f b)) i (drop 1 xs) filled)) (ascends_drop f R xs (i + 1) up)
        (fails_after (λ b. begins IsUpto (f b)) xs later i is point)

pub drop_first : {X : Type 0} (xs : List X) → drop (min (length xs) 1) xs ≡ drop 1 xs
drop_first [] = refl
drop_first (x ∷ xs) = let e : min (length (x ∷ xs)) 1 ≡ 1 = omega arith in ap (λ k. drop k (x ∷ xs)) e
