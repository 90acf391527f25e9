-- The steps of a search by halves and eighths.
use Rattle.std.proofs.Common.{◌≡◌, ℕ, ◌+◌, ◌-◌, ◌*◌, ◌/◌, ◌<◌, ◌≤◌, Bool, true, false, true≢false, List, length, get_or}
use Rattle.std.proofs.Common.{refl, sym, ap, ◌∙◌, subst, inl, inr, arith}
use Rattle.std.specs.declared.cmp.Ordering.{Ordering}
use Rattle.std.specs.declared.cmp.Ordering.TheVariants.{Less, Equal, Greater}
use Rattle.std.specs.Cmp.{IsTotalOrder}
use Rattle.std.specs.Ordering.{is_eq, is_lt, ordering_reverse}
use Rattle.std.specs.List.{AllWithin}
use Rattle.std.specs.List.Sorted.{IsPartitionedBy, IsPartitionPoint, IsStrictlySortedBy}
use Rattle.std.proofs.Math.Nat.{mul-add, mul-le-mul_left, mul-zero}
use Rattle.std.proofs.lemmas.Bool.{cases_lt}
use Rattle.std.proofs.lemmas.List.{get_or_default}
use Rattle.std.proofs.lemmas.Map.Keys.{Less-from_sorted}
use Rattle.sorted_pairs.specs.inside.Searches.{IsSearching, IsPassing, parting}

module _ {X : Type 0} (passes : X → Bool) (xs : List X) (i : ℕ) (x : X) (within : i < length xs)
    (is : x ≡ get_or xs i x) where
  here : (d : X) → passes (get_or xs i d) ≡ passes x
  here d = ap passes (get_or_default xs i d x within ∙ sym is)

  -- each item up to one that passes does
  pub passed : IsPartitionedBy passes xs → passes x ≡ true → (end : ℕ) → end ≤ i + 1 →
      AllWithin (λ y. passes y ≡ true) xs 0 end
  passed parted does end le k d low below = parted k i d (omega arith) within (here d ∙ does)

  -- none from one on that does not pass does
  pub failed : IsPartitionedBy passes xs → passes x ≡ false → (start : ℕ) → i ≤ start →
      AllWithin (λ y. passes y ≡ false) xs start (length xs)
  failed parted fails start le k d low below =
      elim (passes (get_or xs k d)) as (λ b. passes (get_or xs k d) ≡ b → b ≡ false) [
        | true ↦ λ e. absurd (true≢false (sym (parted i k d (omega arith) below e) ∙ here d ∙ fails))
        | false ↦ λ _. refl
      ] refl

module _ {X : Type 0} (passes : X → Bool) (xs : List X) (base size : ℕ) (x : X)
    (at : IsSearching passes base size xs) where
  pub upper_half : x ≡ get_or xs (base + size / 2) x → passes x ≡ true →
      IsSearching passes (base + size / 2) (size - size / 2) xs
  upper_half is does = record {
    some = omega (arith, at.some);
    within = omega (arith, at.within);
    about = λ parted. record {
      before =
          passed passes xs (base + size / 2) x (omega (arith, at.some, at.within)) is parted does (base + size / 2)
          (omega arith);
      behind = λ k d low below. (at.about parted).behind k d (omega arith) below;
    };
  }

  pub lower_half : x ≡ get_or xs (base + size / 2) x → passes x ≡ false →
      IsSearching passes base (size - size / 2) xs
  lower_half is fails = record {
    some = omega (arith, at.some);
    within = omega (arith, at.within);
    about = λ parted. record {
      before = (at.about parted).before;
      behind =
          failed passes xs (base + size / 2) x (omega (arith, at.some, at.within)) is parted fails
          (base + (size - size / 2)) (omega arith);
    };
  }

lt_is : (u : Ordering) → is_lt u ≡ true → u ≡ Less
lt_is Less e = refl
lt_is Equal e = cc
lt_is Greater e = cc

greater_is : (u : Ordering) → is_lt u ≡ false → is_eq u ≡ false → u ≡ Greater
greater_is Less e f = cc
greater_is Equal e f = cc
greater_is Greater e f = refl

-- the place of an item in an ascending list
module _ {K : Type 0} {R : K → K → Ordering} (o : IsTotalOrder R) (xs : List K) (x : K)
    (up : IsStrictlySortedBy R xs) where
  pub parted_below : IsPartitionedBy (λ y. is_lt (R y x)) xs
  parted_below i j d le within e =
      elim (cases_lt i j) [
        | inl low ↦
            ap is_lt (o.trans (get_or xs i d) (get_or xs j d) x (Less-from_sorted R xs i j d up low within)
            (lt_is (R (get_or xs j d) x) e))
        | inr above ↦
            let same : j ≡ i = omega arith in
            subst (λ k. is_lt (R (get_or xs k d) x) ≡ true) same e
      ]

  pub place_of_item : (i : ℕ) → IsPartitionPoint (λ y. is_lt (R y x) ≡ true) (λ y. is_lt (R y x) ≡ false) xs i →
      (i < length xs → (d : K) → is_eq (R (get_or xs i d) x) ≡ false) →
      IsPartitionPoint (λ y. R y x ≡ Less) (λ y. R y x ≡ Greater) xs i
  place_of_item i point apart = (
    λ k d low below. lt_is (R (get_or xs k d) x) (point.0 k d low below),
    λ k d low below.
        let from : i < length xs = omega arith in
        let here : R (get_or xs i d) x ≡ Greater =
        greater_is (R (get_or xs i d) x) (point.1 i d (omega arith) from) (apart from d) in
        let above : R x (get_or xs i d) ≡ Less = o.antisymm x (get_or xs i d) ∙ ap ordering_reverse here in
        elim (cases_lt i k) [
          | inl later ↦
              o.antisymm (get_or xs k d) x
              ∙ ap ordering_reverse (o.trans x (get_or xs i d) (get_or xs k d) above
              (Less-from_sorted R xs i k d up later below))
          | inr upto ↦
              let same : i ≡ k = omega arith in
              subst (λ j. R (get_or xs j d) x ≡ Greater) same here
        ],
  )

-- before an item that does not pass
pub near : {X : Type 0} (passes : X → Bool) (xs : List X) (i : ℕ) (x : X) → 0 < i → i < length xs → x ≡ get_or xs i x →
    passes x ≡ false → IsSearching passes 0 i xs
near passes xs i x some within is fails = record {
  some = some;
  within = omega arith;
  about = λ parted. record {
    before = λ k d low below. absurd (omega arith);
    behind = failed passes xs i x within is parted fails (0 + i) (omega arith);
  };
}

-- the parts of so many items
module _ {X : Type 0} (passes : X → Bool) (xs : List X) (base size : ℕ) (at : IsSearching passes base size xs)
    (parted : IsPartitionedBy passes xs) where
  -- what parts them is one of them
  parts_within : (part : ℕ) → part < 8 → base + size * part / 8 < length xs
  parts_within part few =
      let le : part ≤ 7 = omega arith in
      let m : size * part ≤ size * 7 = mul-le-mul_left size le in
      omega (arith, m, at.some, at.within)

  module _ (part count : ℕ) (x : X) (few : part < 8) (some : 0 < part) (is : x ≡ get_or xs (base + size * part / 8) x)
      (counts : IsPassing passes xs base size part count) where
    here_at : (d : X) → passes (parting xs base size part d) ≡ passes x
    here_at d = ap passes (get_or_default xs (base + size * part / 8) d x (parts_within part few) ∙ sym is)

    -- where one passes each before it does
    all_before : passes x ≡ true → count + 1 ≡ part
    all_before does =
        elim (cases_lt (count + 1) part) [
          | inl early ↦
              let before : base + size * (count + 1) / 8 ≤ base + size * part / 8 =
              (let le : count + 1 ≤ part = omega arith in
              let m : size * (count + 1) ≤ size * part = mul-le-mul_left size le in omega (arith, m)) in
              absurd (true≢false (sym (parted (base + size * (count + 1) / 8) (base + size * part / 8) x before
              (parts_within part few) (here_at x ∙ does)) ∙ counts.failing x early))
          | inr late ↦ omega (arith, counts.below)
        ]

    pub one_more : passes x ≡ true → IsPassing passes xs base size (part + 1) (count + 1)
    one_more does =
        let e : count + 1 ≡ part = all_before does in
        record {
          fits = omega arith;
          below = omega (arith, counts.below);
          passing = λ d _.
              subst (λ k. passes (parting xs base size k d) ≡ true) (sym e) (here_at d ∙ does);
          failing = λ d early. absurd (omega (arith, e));
        }

    pub no_more : passes x ≡ false → IsPassing passes xs base size (part + 1) count
    no_more fails = record {
      fits = omega arith;
      below = omega (arith, counts.below);
      passing = counts.passing;
      failing = λ d early.
          elim (cases_lt (count + 1) part) [
            | inl before ↦ counts.failing d before
            | inr late ↦
                let e : part ≡ count + 1 = omega (arith, counts.below) in
                subst (λ k. passes (parting xs base size k d) ≡ false) e (here_at d ∙ fails)
          ];
    }

-- the part of eight, after so many that pass
pub eighth_about : {X : Type 0} (passes : X → Bool) (xs : List X) (base size part count : ℕ) → 8 ≤ size →
    8 ≤ part → count < part → part ≤ 8 → IsSearching passes base size xs →
    (IsPartitionedBy passes xs → IsPassing passes xs base size part count) →
    IsSearching passes (base + size * count / 8) (size * (count + 1) / 8 - size * count / 8) xs
eighth_about passes xs base size part count some all below fits at counts =
    let e : size * (count + 1) ≡ size * count + size * 1 = mul-add size count 1 in
    let le : count + 1 ≤ 8 = omega arith in
    let m : size * (count + 1) ≤ size * 8 = mul-le-mul_left size le in
    record {
      some = omega (arith, e);
      within = omega (arith, e, m, at.within);
      about = λ parted. record {
        before = λ k c low under.
            elim (cases_lt 0 count) [
              | inl more ↦
                  parted k (base + size * count / 8) c (omega arith) (omega (arith, e, m, at.within))
                  ((counts parted).passing c more)
              | inr none ↦
                  let zero_is : count ≡ 0 = omega arith in
                  let n : size * count ≡ 0 = ap (λ j. size * j) zero_is ∙ mul-zero size in
                  (at.about parted).before k c low (omega (arith, n))
            ];
        behind = λ k c low under.
            elim (cases_lt (count + 1) part) [
              | inl more ↦
                  elim (passes (get_or xs k c)) as (λ b. passes (get_or xs k c) ≡ b → b ≡ false) [
                    | true ↦ λ does.
                        absurd (true≢false (sym (parted (base + size * (count + 1) / 8) k c (omega (arith, e, low))
                        under does) ∙ (counts parted).failing c more))
                    | false ↦ λ _. refl
                  ] refl
              | inr last ↦
                  let eight : count + 1 ≡ 8 = omega arith in
                  let n : size * (count + 1) ≡ size * 8 = ap (λ j. size * j) eight in
                  (at.about parted).behind k c (omega (arith, e, n, low)) under
            ];
      };
    }
