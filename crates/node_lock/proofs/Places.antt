-- Receipts in the order of their places.
use Rattle.std.proofs.Common.{◌≡◌, ℕ, zero, suc, ◌+◌, ◌<◌, ◌≤◌, ⊎_elim, Bool, true, false, cond}
use Rattle.std.proofs.Common.{List, [], ◌∷◌, ◌++◌, length, get_or, take, drop, refl, sym, ap, ◌∙◌, subst, arith}
use Rattle.std.specs.Prelude.{slice_get, Some, None, ◌==◌, ◌&&◌, All, Contains}
use Rattle.std.specs.List.Sorted.{IsPermutation, IsNonDecreasingBy}
use Rattle.std.specs.Borrow.{Bor}
use Rattle.std.proofs.lemmas.Bool.{ne_eqb, eq-eqb}
use Rattle.std.proofs.lemmas.List.{get_or-drop, get_or-map, length-drop, length-map}
use Rattle.std.proofs.lemmas.List.{take-map, take_all, drop-drop, drop_at, length-append}
use Rattle.std.proofs.lemmas.List.Elements.{All-head, All-tail, All-contains, All-more}
use Rattle.std.proofs.lemmas.List.Elements.{Contains-append_cases, Contains-append_right}
use Rattle.std.proofs.lemmas.List.Sorted.{IsPermutation-map, IsPermutation-sym, Contains-permutation}
use Rattle.std.proofs.lemmas.List.Sorted.{sum_by-IsPermutation, IsNonDecreasingBy-drop}
use Rattle.std.proofs.lemmas.List.Sums.{sum_by-cons, sum_by-append}
use Rattle.node_lock.specs.Receipts.{is_recorded_outcome}
use Rattle.node_lock.specs.Audits.{recorded_at}
use Rattle.node_lock.specs.inside.Walks.{receipts_of, IsRest, recorded_in}
use Rattle.node_lock.specs.declared.receipt.Receipt.{Receipt}

abbrev pub place_of : Receipt → ℕ
place_of r = r.place

off : (a b : Bool) → a ≡ false → cond {A = ℕ} (a && b) 1 0 ≡ 0
off true b e = cc
off false b e = refl

on : (a b : Bool) → a ≡ true → cond {A = ℕ} (a && b) 1 0 ≡ cond b 1 0
on true b e = refl
on false b e = cc

-- receipts for other places do not count at a place
pub none_at : (place : ℕ) (rs : List Receipt) → All (λ (r : Receipt). r.place ≡ place → ⊥) rs → recorded_at rs place ≡ 0
none_at place [] others = refl
none_at place (r ∷ rs) others =
    let here = off (r.place == place) (is_recorded_outcome r.outcome)
    (ne_eqb r.place place (All-head (λ (x : Receipt). x.place ≡ place → ⊥) r rs others)) in
    let rest = none_at place rs (All-tail (λ (x : Receipt). x.place ≡ place → ⊥) r rs others) in
    sum_by-cons (λ (x : Receipt). cond ((x.place == place) && is_recorded_outcome x.outcome) 1 0) r rs
    ∙ ap (λ n. n + recorded_at rs place) here ∙ ap (λ n. 0 + n) rest

-- of those for the place all recorded ones do
pub all_at : (place : ℕ) (rs : List Receipt) → All (λ (r : Receipt). r.place ≡ place) rs → recorded_at rs place
    ≡ recorded_in rs
all_at place [] same = refl
all_at place (r ∷ rs) same =
    let here = on (r.place == place) (is_recorded_outcome r.outcome)
    (eq-eqb r.place place (All-head (λ (x : Receipt). x.place ≡ place) r rs same)) in
    let rest = all_at place rs (All-tail (λ (x : Receipt). x.place ≡ place) r rs same) in
    sum_by-cons (λ (x : Receipt). cond ((x.place == place) && is_recorded_outcome x.outcome) 1 0) r rs
    ∙ ap (λ n. n + recorded_at rs place) here ∙ ap (λ n. cond (is_recorded_outcome r.outcome) 1 0 + n) rest
    ∙ sym (sum_by-cons (λ (x : Receipt). cond (is_recorded_outcome x.outcome) 1 0) r rs)

pub at_append : (place : ℕ) (xs ys : List Receipt) → recorded_at (xs ++ ys) place
    ≡ recorded_at xs place + recorded_at ys place
at_append place xs ys = sum_by-append _ xs ys

-- where the places do not fall and the one at k is above the given one, those from k on are
pub above_from : (rs : List Receipt) (place k : ℕ) → IsNonDecreasingBy place_of rs →
    All (λ (r : Receipt). place ≤ r.place) rs →
    ((d : Receipt) → k < length rs → (get_or rs k d).place ≡ place → ⊥) →
    All (λ (r : Receipt). place < r.place) (drop k rs)
above_from rs place k ordered low at i d inside =
    let n : i + k < length rs = omega (arith, length-drop k rs) in
    let same : get_or (drop k rs) i d ≡ get_or rs (k + i) d = get_or-drop k rs i d in
    let up : (get_or rs k d).place ≤ (get_or rs (k + i) d).place = ordered k (k + i) d (omega arith) (omega arith) in
    let least : place ≤ (get_or rs k d).place = low k d (omega arith) in
    let other : (get_or rs k d).place ≡ place → ⊥ = at d (omega arith) in
    let P : Receipt → Type 0 = λ r. place < r.place in
    subst P (sym same) (let strict : place < (get_or rs k d).place = grind (arith, other) in omega arith)

-- the order of references is that of the receipts
pub ordered_of : (bs : List (Bor Receipt)) → IsNonDecreasingBy (λ (b : Bor Receipt). b.now.place) bs
    → IsNonDecreasingBy place_of (receipts_of bs)
ordered_of [] ordered i j d up inside = absurd (omega arith)
ordered_of (b ∷ bs) ordered i j d up inside =
    let now : Bor Receipt → Receipt = λ x. x.now in
    let len : length (receipts_of (b ∷ bs)) ≡ length (b ∷ bs) = length-map (b ∷ bs) now in
    let end : j < length (b ∷ bs) = omega arith in
    let at_i : get_or (receipts_of (b ∷ bs)) i d ≡ (get_or (b ∷ bs) i b).now =
    get_or-map now (b ∷ bs) i b d (omega arith) in
    let at_j : get_or (receipts_of (b ∷ bs)) j d ≡ (get_or (b ∷ bs) j b).now = get_or-map now (b ∷ bs) j b d end in
    let between = ordered i j b up end in
    let P : Receipt → Type 0 = λ r. r.place ≤ (get_or (receipts_of (b ∷ bs)) j d).place in
    let Q : Receipt → Type 0 = λ r. (get_or (b ∷ bs) i b).now.place ≤ r.place in
    subst P (sym at_i) (subst Q (sym at_j) between)

-- in order they are all the receipts
pub rest_of_all : (receipts : List Receipt) (bs sorted : List (Bor Receipt)) → receipts_of bs ≡ receipts →
    IsPermutation bs sorted → IsNonDecreasingBy (λ (b : Bor Receipt). b.now.place) sorted →
    IsRest receipts 0 (receipts_of sorted)
rest_of_all receipts bs sorted same permuted ordered =
    let P : List Receipt → Type 0 = λ rs. IsPermutation rs (receipts_of sorted) in
    let perm : IsPermutation receipts (receipts_of sorted) =
    subst P same (IsPermutation-map (λ (x : Bor Receipt). x.now) bs sorted permuted) in
    record {
      ordered = ordered_of sorted ordered;
      low = λ k d inside. omega arith;
      counts = λ p _. sym (sum_by-IsPermutation _ receipts (receipts_of sorted) perm);
      members = λ r has _. Contains-permutation receipts (receipts_of sorted) r perm has;
      among = λ r has. Contains-permutation (receipts_of sorted) receipts r (IsPermutation-sym _ _ perm) has;
    }

-- what comes after some of them is in order too
pub later_ordered : (rest here later : List Receipt) → rest ≡ here ++ later → IsNonDecreasingBy place_of rest
    → IsNonDecreasingBy place_of later
later_ordered rest here later whole ordered =
    let P : List Receipt → Type 0 = λ rs. IsNonDecreasingBy place_of rs in
    subst P (ap (drop (length here)) whole ∙ drop_at here later (length here) refl)
    (IsNonDecreasingBy-drop place_of (length here) rest ordered)

-- after the receipts for a place come those for later ones
pub next_rest : (receipts : List Receipt) (place : ℕ) (rest here later : List Receipt) → IsRest receipts place rest →
    rest ≡ here ++ later → All (λ (r : Receipt). r.place ≡ place) here → All (λ (r : Receipt). place < r.place) later →
    IsRest receipts (place + 1) later
next_rest receipts place rest here later is whole same above = record {
  ordered = later_ordered rest here later whole is.ordered;
  low = λ k d inside. let h = above k d inside in omega arith;
  counts = λ p up.
      let all = is.counts p (omega arith) in
      let split : recorded_at rest p ≡ recorded_at here p + recorded_at later p =
      ap (λ rs. recorded_at rs p) whole ∙ at_append p here later in
      let none : recorded_at here p ≡ 0 =
      none_at p here (λ k d inside e. let f = same k d inside in absurd (omega arith)) in
      omega arith;
  members = λ r has up.
      let Q : List Receipt → Type 0 = λ rs. Contains rs r in
      ⊎_elim
      (λ (h : Contains here r). let e = All-contains (λ (x : Receipt). x.place ≡ place) here r same h in
      absurd (omega arith))
      (λ (h : Contains later r). h)
      (Contains-append_cases here later r (subst Q whole (is.members r has (omega arith))));
  among = λ r has.
      let Q : List Receipt → Type 0 = λ rs. Contains rs r in
      is.among r (subst Q (sym whole) (Contains-append_right here later r has));
}

pub drop_receipts : (k : ℕ) (bs : List (Bor Receipt)) → receipts_of (drop k bs) ≡ drop k (receipts_of bs)
drop_receipts zero bs = refl
drop_receipts (suc k) [] = refl
drop_receipts (suc k) (b ∷ bs) = drop_receipts k bs

-- what is read at an index
pub now_at : (bs : List (Bor Receipt)) (i : ℕ) (b : Bor Receipt) (d : Receipt) → i < length bs → b ≡ get_or bs i b →
    get_or (receipts_of bs) i d ≡ b.now
now_at bs i b d inside is =
    let now : Bor Receipt → Receipt = λ x. x.now in
    get_or-map now bs i b d inside ∙ ap now (sym is)

-- one more receipt of which it holds
pub all_more : (P : Receipt → Type 0) (bs : List (Bor Receipt)) (i : ℕ) (b : Bor Receipt) → i < length bs →
    b ≡ get_or bs i b → All P (receipts_of (take i bs)) → P b.now → All P (receipts_of (take (i + 1) bs))
all_more P bs i b inside is all here =
    let now : Bor Receipt → Receipt = λ x. x.now in
    let len : length (receipts_of bs) ≡ length bs = length-map bs now in
    let Q : List Receipt → Type 0 = λ rs. All P rs in
    subst Q (take-map now (i + 1) bs)
    (All-more P (receipts_of bs) i b.now (omega arith) (subst Q (sym (take-map now i bs)) all)
    (subst P (sym (now_at bs i b b.now inside is)) here))

-- it holds of them all
pub all_taken : (P : Receipt → Type 0) (bs : List (Bor Receipt)) (n : ℕ) → length bs ≤ n →
    All P (receipts_of (take n bs)) → All P (receipts_of bs)
all_taken P bs n end all =
    let Q : List (Bor Receipt) → Type 0 = λ xs. All P (receipts_of xs) in
    subst Q (take_all n bs end) all

-- it does not hold of all where it does not hold of one
pub not_all : (P : Receipt → Type 0) (bs : List (Bor Receipt)) (i : ℕ) (b : Bor Receipt) → i < length bs →
    b ≡ get_or bs i b → (P b.now → ⊥) → All P (receipts_of bs) → ⊥
not_all P bs i b inside is other all =
    let now : Bor Receipt → Receipt = λ x. x.now in
    let len : length (receipts_of bs) ≡ length bs = length-map bs now in
    other (subst P (now_at bs i b b.now inside is) (all i b.now (omega arith)))

-- what is left of the references after those for a place
pub rest_after : (sorted : List (Bor Receipt)) (done : ℕ) (here later : List (Bor Receipt)) →
    receipts_of (drop done sorted) ≡ receipts_of here ++ receipts_of later →
    receipts_of (drop (done + length here) sorted) ≡ receipts_of later
rest_after sorted done here later whole =
    let now : Bor Receipt → Receipt = λ x. x.now in
    ap receipts_of (sym (drop-drop (length here) done sorted))
    ∙ drop_receipts (length here) (drop done sorted)
    ∙ ap (drop (length here)) whole
    ∙ drop_at (receipts_of here) (receipts_of later) (length here) (length-map here now)

pub within_all : (sorted : List (Bor Receipt)) (done : ℕ) (here later : List (Bor Receipt)) → done ≤ length sorted →
    receipts_of (drop done sorted) ≡ receipts_of here ++ receipts_of later → done + length here ≤ length sorted
within_all sorted done here later within whole =
    let now : Bor Receipt → Receipt = λ x. x.now in
    let a : length (receipts_of (drop done sorted)) ≡ length (drop done sorted) = length-map (drop done sorted) now in
    let b : length (receipts_of here) ≡ length here = length-map here now in
    let c : length (receipts_of (drop done sorted)) ≡ length (receipts_of here) + length (receipts_of later) =
    ap length whole ∙ length-append (receipts_of here) (receipts_of later) in
    let d = length-drop done sorted in
    omega arith

-- the first of them has the least place
pub least_first : (bs : List (Bor Receipt)) (b : Bor Receipt) → slice_get bs 0 ≡ Some b →
    IsNonDecreasingBy place_of (receipts_of bs) →
    Contains (receipts_of bs) b.now × ((r : Receipt) → Contains (receipts_of bs) r → b.now.place ≤ r.place)
least_first [] b first ordered = absurd cc
least_first (x ∷ xs) b first ordered =
    let is : x ≡ b = cc in
    let P : Bor Receipt → Type 0 = λ y.
    Contains (receipts_of (x ∷ xs)) y.now
    × ((r : Receipt) → Contains (receipts_of (x ∷ xs)) r → y.now.place ≤ r.place) in
    subst P is (
      (0, omega arith, refl),
      (λ r has.
          let Q : Receipt → Type 0 = λ y. x.now.place ≤ y.place in
          subst Q has.2 (ordered 0 has.0 r (omega arith) has.1)),
    )

-- where there is no first one there is none
pub none_first : (bs : List (Bor Receipt)) → slice_get bs 0 ≡ None → receipts_of bs ≡ []
none_first [] first = refl
none_first (x ∷ xs) first = absurd cc
