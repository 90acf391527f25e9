-- A list in blocks, as one block after another is split.
use Rattle.std.proofs.Common.{◌≡◌, ℕ, zero, suc, ◌+◌, ◌-◌, ◌<◌, ◌≤◌}
use Rattle.std.proofs.Common.{List, [], ◌∷◌, ◌++◌, length, get_or, take, drop, refl}
use Rattle.std.proofs.Common.{set, sym, ap, ◌∙◌, subst, arith, append_assoc, ◌/◌}
use Rattle.std.specs.Prelude.{vec_len, vec_capacity}
use Rattle.std.specs.declared.vec.Vec.{Vec}
use Rattle.std.specs.List.{AllByRecursion, insert}
use Rattle.std.proofs.lemmas.List.{drop_more, get_or_default, length-drop, take-append-drop}
use Rattle.std.proofs.lemmas.List.Edits.{get_or-insert_below}
use Rattle.std.proofs.lemmas.List.Concat.{flat_map-append}
use Rattle.sorted_pairs.specs.Blocks.{IsRoomy, AreBlocks, IsSplit, items_in, block_size}
use Rattle.sorted_pairs.proofs.EachLemmas.{each_append, each_at, each_take, each_drop, each_map}
use Rattle.sorted_pairs.proofs.BlockLemmas.{around}
use Rattle.sorted_pairs.proofs.PlaceLemmas.{IsFilled}

drop_front : {X : Type 0} (xs ys : List X) (i : ℕ) → i ≤ length xs → drop i (take i xs ++ ys) ≡ ys
drop_front xs ys zero fits = refl
drop_front [] ys (suc i) fits = absurd (omega arith)
drop_front (x ∷ xs) ys (suc i) fits = drop_front xs ys i (omega arith)

length_more : {X : Type 0} (xs : List X) (a b : X) (i : ℕ) → i < length xs →
    length (take i xs ++ (a ∷ (b ∷ drop (suc i) xs))) ≡ length xs + 1
length_more [] a b i within = absurd (omega arith)
length_more (x ∷ xs) a b zero within = omega arith
length_more (x ∷ xs) a b (suc i) within = let e = length_more xs a b i (omega arith) in omega arith

each_later : {X : Type 0} (P : X → Type 0) (xs : List X) (a b : X) (i : ℕ) → i < length xs →
    AllByRecursion P (drop 1 xs) → P a → P b → AllByRecursion P (drop 1 (take i xs ++ (a ∷ (b ∷ drop (suc i) xs))))
each_later P [] a b i within each pa pb = absurd (omega arith)
each_later P (x ∷ xs) a b zero within each pa pb = (pb, each)
each_later P (x ∷ xs) a b (suc i) within each pa pb =
    each_append P (take i xs) (a ∷ (b ∷ drop (suc i) xs)) (each_take P i xs each) (
      pa,
      (
        pb,
        each_drop P (suc i) xs
            each,
      ),
    )

pub nothing_left : {Y : Type 0} (P : Y → Type 0) (ys : List Y) → AllByRecursion P (drop (length ys) ys)
nothing_left P [] = tt
nothing_left P (y ∷ ys) = nothing_left P ys

module _ {X Z : Type 0} where
  -- the blocks from this place on have so much room; the items and the room of all are no less than they were
  pub record IsRoomyFrom (least place : ℕ) (old new : List (Vec X Z)) : Type 0 where
    pub fits : place ≤ length new
    pub some : 0 < length old → 0 < length new
    pub items : items_in new ≡ items_in old
    pub more : (room : ℕ) → room ≤ least → AllByRecursion (IsRoomy room) old → AllByRecursion (IsRoomy room) new
    pub filled : AllByRecursion IsFilled (drop 1 new)
    pub roomy : AllByRecursion (IsRoomy least) (drop place new)

  pub roomy_first : (least : ℕ) (bs : List (Vec X Z)) → AllByRecursion IsFilled (drop 1 bs)
      → AllByRecursion (IsRoomy least) (drop (length bs) bs) → IsRoomyFrom least (length bs) bs bs
  roomy_first least bs filled none = record {
    fits = omega arith;
    some = λ h. h;
    items = refl;
    more = λ room le each. each;
    filled = filled;
    roomy = none;
  }

  -- at the end, and where there is no memory
  pub same_room : (least place room : ℕ) (old new : List (Vec X Z)) → IsRoomyFrom least place old new → room ≤ least →
      AreBlocks room old → AreBlocks room new
  same_room least place room old new from le are = record {
    roomy = from.more room le are.roomy;
    some = λ h. from.some (are.some h);
    filled = from.filled;
  }

  pub all_roomy : (least : ℕ) (old new : List (Vec X Z)) → IsRoomyFrom least 0 old new → 0 < length old
      → AreBlocks least new
  all_roomy least old new from some = record { roomy = from.roomy; some = λ _. from.some some; filled = from.filled }

  pub less_room : (m n : ℕ) → m ≤ n → (bs : List (Vec X Z)) → AreBlocks n bs → AreBlocks m bs
  less_room m n le bs are = record {
    roomy =
        each_map (IsRoomy n) (IsRoomy m) (λ c r. record { len = omega (arith, r.len); capacity = r.capacity }) bs
        are.roomy;
    some = λ h. are.some (omega arith);
    filled = are.filled;
  }

  -- the first block
  pub first_block : (room : ℕ) (b : Vec X Z) → room ≤ block_size → vec_len b ≡ 0 → block_size ≤ vec_capacity b
      → AreBlocks room (b ∷ [])
  first_block room b le none large = record {
    roomy = (record { len = omega arith; capacity = large }, tt);
    some = λ _. omega arith;
    filled = tt;
  }

  pub no_blocks : AreBlocks {X = X} {Z = Z} 0 []
  no_blocks = record { roomy = tt; some = λ h. absurd (omega arith); filled = tt }

  module _ (least place : ℕ) (old bs : List (Vec X Z)) (from : IsRoomyFrom least place old bs)
      (all : AllByRecursion (IsRoomy 0) old) (some : 0 < place) (few : least + least ≤ block_size) where
    at_place : (b : Vec X Z) → b ≡ get_or bs (place - 1) b → IsRoomy 0 b
    at_place b at =
        subst (IsRoomy 0) (sym at)
        (each_at (IsRoomy 0) bs (place - 1) b (omega (arith, from.fits)) (from.more 0 (omega arith) all))

    pub roomy_short : (b : Vec X Z) → b ≡ get_or bs (place - 1) b → vec_len b ≤ block_size - least →
        IsRoomyFrom least (place - 1) old bs
    roomy_short b at short =
        let was : IsRoomy 0 b = at_place b at in
        let e : place - 1 + 1 ≡ place = omega arith in
        record {
          fits = omega (arith, from.fits);
          some = from.some;
          items = from.items;
          more = from.more;
          filled = from.filled;
          roomy =
              subst (AllByRecursion (IsRoomy least)) (sym (drop_more bs (place - 1) b (omega (arith, from.fits)))) (
                subst (IsRoomy least) at (record { len = omega (arith, short); capacity = was.capacity }),
                subst (λ k. AllByRecursion (IsRoomy least) (drop k bs)) (sym e) from.roomy,
              );
        }

    split_items : (new : List (Vec X Z)) (b : Vec X Z) → b ≡ get_or bs (place - 1) b → place - 1 < length bs →
        (split : IsSplit (place - 1) bs new) → b ≡ split.block → items_in new ≡ items_in bs
    split_items new b at within split same =
        let i : ℕ = place - 1 in
        let e : suc i ≡ i + 1 = omega arith in
        ap items_in split.is
        ∙ flat_map-append (λ (c : Vec X Z). c.items) (take i bs) (split.lower ∷ (split.upper ∷ drop (suc i) bs))
        ∙ ap (λ l. items_in (take i bs) ++ l)
        (sym (append_assoc split.lower.items split.upper.items (items_in (drop (suc i) bs)))
        ∙ ap (λ l. l ++ items_in (drop (suc i) bs)) (split.items ∙ sym (ap (λ (c : Vec X Z). c.items) same)))
        ∙ ap (λ k. items_in (take i bs) ++ (b.items ++ items_in (drop k bs))) e
        ∙ ap (λ (c : Vec X Z). items_in (take i bs) ++ (c.items ++ items_in (drop (i + 1) bs))) at
        ∙ sym (around (λ (c : Vec X Z). c.items) bs i b within)

    pub roomy_split : (new : List (Vec X Z)) (b : Vec X Z) → b ≡ get_or bs (place - 1) b → block_size - least <
        vec_len b →
        IsSplit (place - 1) bs new → IsRoomyFrom least (place - 1) old new
    roomy_split new b at long split =
        let i : ℕ = place - 1 in
        let within : i < length bs = omega (arith, from.fits) in
        let same : b ≡ split.block = at ∙ split.was b in
        let was : IsRoomy 0 b = at_place b at in
        let lens : vec_len b ≡ vec_len split.block = ap (λ (c : Vec X Z). vec_len c) same in
        let caps : vec_capacity b ≡ vec_capacity split.block = ap (λ (c : Vec X Z). vec_capacity c) same in
        let here : vec_len b ≤ block_size = omega (arith, was.len) in
        let halves : vec_len split.lower + vec_len split.upper ≡ vec_len b = split.len ∙ sym lens in
        let low : IsRoomy least split.lower =
        record {
          len = omega (arith, split.even, split.odd);
          capacity = omega (
            arith,
            split.lower_capacity,
            was.capacity,
          );
        } in
        let high : IsRoomy least split.upper =
        record { len = omega (arith, split.even, split.odd); capacity = split.upper_capacity } in
        let e : suc i ≡ place = omega arith in
        let rest : AllByRecursion (IsRoomy least) (drop (suc i) bs) =
        subst (λ k. AllByRecursion (IsRoomy least) (drop k bs)) (sym e) from.roomy in
        let grown : length new ≡ length bs + 1 =
        ap length split.is ∙ length_more bs split.lower split.upper i within in
        record {
          fits = omega (arith, from.fits);
          some = λ _. omega arith;
          items = split_items new b at within split same ∙ from.items;
          more = λ room le each.
              let weak : (c : Vec X Z) → IsRoomy least c → IsRoomy room c =
              λ c r. record { len = omega (arith, r.len); capacity = r.capacity } in
              let now : AllByRecursion (IsRoomy room) bs = from.more room le each in
              subst (AllByRecursion (IsRoomy room)) (sym split.is)
              (each_append (IsRoomy room) (take i bs) _ (each_take (IsRoomy room) i bs now)
              (weak split.lower low, (weak split.upper high, each_drop (IsRoomy room) (suc i) bs now)));
          filled =
              subst (λ l. AllByRecursion IsFilled (drop 1 l)) (sym split.is)
              (each_later IsFilled bs split.lower split.upper i within from.filled
              (omega (arith, split.lower.ok.0, split.even, split.odd))
              (omega (arith, split.upper.ok.0, split.even, split.odd)));
          roomy =
              subst (λ l. AllByRecursion (IsRoomy least) (drop i l)) (sym split.is)
              (subst (AllByRecursion (IsRoomy least)) (sym (drop_front bs _ i (omega arith))) (low, (high, rest)));
        }

split_list : {X : Type 0} (xs : List X) (i : ℕ) (u l : X) → i < length xs →
    set (insert xs (suc i) u) i l ≡ take i xs ++ (l ∷ (u ∷ drop (suc i) xs))
split_list [] i u l within = absurd (omega arith)
split_list (x ∷ xs) zero u l within = refl
split_list (x ∷ xs) (suc i) u l within = ap (λ t. x ∷ t) (split_list xs i u l (omega arith))

same_read : {X : Type 0} (xs : List X) (i : ℕ) (a b : X) → a ≡ get_or xs i a → b ≡ get_or xs i b → i < length xs → a ≡ b
same_read xs i a b is at within = is ∙ get_or_default xs i a b within ∙ sym at

module _ {X Z : Type 0} (xs ys : List (Vec X Z)) (i half : ℕ) (b c m u l : Vec X Z) (within : i < length xs)
    (is : b ≡ get_or xs i b) (again : c ≡ get_or xs i c) (ys_is : ys ≡ insert xs (i + 1) u) (at : m ≡ get_or ys i m)
    (halved : half ≡ vec_len b / 2) (upper : u.items ≡ drop half c.items) (large : block_size ≤ vec_capacity u)
    (lower : l.items ≡ take half m.items) (shorter : vec_len l + (vec_len m - half) ≡ vec_len m)
    (capacity : vec_capacity l ≡ vec_capacity m) where
  moved : m ≡ b
  moved =
      same_read xs i m b (at ∙ ap (λ t. get_or t i m) ys_is
      ∙ get_or-insert_below xs (i + 1) u m i (omega arith) (omega arith)) is within

  pub is_split : IsSplit i xs (set ys i l)
  is_split =
      let e : i + 1 ≡ suc i = omega arith in
      let one : c ≡ b = same_read xs i c b again is within in
      let lens : vec_len m ≡ vec_len b = ap (λ (v : Vec X Z). vec_len v) moved in
      let high : u.items ≡ drop half b.items = upper ∙ ap (λ (v : Vec X Z). drop half v.items) one in
      let long : length u.items ≡ length b.items - half = ap length high ∙ length-drop half b.items in
      let sizes : vec_len u ≡ vec_len b - half = omega (arith, u.ok.0, b.ok.0) in
      record {
        block = b;
        lower = l;
        upper = u;
        was = λ d. get_or_default xs i d b within ∙ sym is;
        is = ap (λ t. set t i l) ys_is ∙ ap (λ k. set (insert xs k u) i l) e ∙ split_list xs i u l within;
        items =
            (λ k. lower k ++ high k)
            ∙ ap (λ (v : Vec X Z). take half v.items ++ drop half b.items) moved ∙ take-append-drop half b.items;
        len = omega arith;
        even = omega arith;
        odd = omega arith;
        lower_capacity = omega (arith, ap (λ (v : Vec X Z). vec_capacity v) moved);
        upper_capacity = large;
      }
