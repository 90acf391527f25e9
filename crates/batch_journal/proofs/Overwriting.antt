-- Bytes that are written over others, and what a crash leaves of them.
use Rattle.std.proofs.Common.{◌≡◌, ◌≢◌, ◌⊎◌, inl, inr, ⊎_elim, ℕ, suc, ◌+◌, ◌-◌, ◌<◌, ◌≤◌}
use Rattle.std.proofs.Common.{List, [], ◌∷◌, ◌++◌, length, take, drop, replicate, get_or, refl, ap, sym, ◌∙◌, subst}
use Rattle.std.proofs.Common.{arith, length-append, append_assoc, append-nil}
use Rattle.std.proofs.lemmas.Bool.{cases_lt}
use Rattle.std.proofs.lemmas.List.{get_or_append_left, get_or-append_right, get_or-append-add, get_or-drop}
use Rattle.std.proofs.lemmas.List.{get_or-take, get_or_past, get_or-replicate, ext_get_or, take_at, drop_at}
use Rattle.std.proofs.lemmas.List.{length-take, length-drop, length-replicate, take-append-drop, length-take-le}
use Rattle.std.proofs.lemmas.List.{drop-drop, drop-replicate, drop_all, replicate-append-replicate}
use Rattle.sqlite_disk.specs.Disk.{Holds, Torn, Mixed, Only}
use Rattle.batch_journal.specs.inside.Fading.{Fades, IsFaded}
use Rattle.batch_journal.specs.inside.Disks.{IsOverwritten, MayBeOverwritten}

pub written_is : (at : ℕ) (bytes old new : List ℕ) → (0 < length bytes → Holds new at bytes) →
    Torn at (length bytes) old new → IsOverwritten at bytes old new
written_is at bytes old new holds torn within =
    let front = take at old in
    let back = drop (at + length bytes) old in
    let target = front ++ (bytes ++ back) in
    let front_size : length front ≡ at = length-take-le at old within in
    let size : length target ≡ at + (length bytes + (length old - (at + length bytes))) =
    omega (
      arith,
      length-append front (bytes ++ back),
      length-append bytes back,
      length-drop (at + length bytes) old,
      front_size,
    ) in
    let long : at + length bytes ≤ length new = elim (cases_lt 0 (length bytes)) [
      | inl some ↦ (holds some).within
      | inr none ↦ omega (arith, torn.no_shorter)
    ] in
    ext_get_or 0 new target (omega (arith, torn.no_shorter, torn.no_longer, size, long))
    (λ i low. elim (cases_lt i at) [
      | inl before ↦
          torn.below i (omega arith) before ∙ sym (get_or-take at old i 0 before)
          ∙ sym (get_or_append_left front (bytes ++ back) 0 i (omega (arith, front_size)))
      | inr behind ↦
          let k = i - at in
          let is : at + k ≡ i = omega arith in
          let there : get_or target i 0 ≡ get_or (bytes ++ back) k 0 =
          get_or-append_right front (bytes ++ back) at i 0 front_size behind in
          elim (cases_lt k (length bytes)) [
            | inl here ↦
                let P : ℕ → Type 0 = λ j. get_or new j 0 ≡ get_or bytes k 0 in
                subst P is ((holds (omega arith)).each k here) ∙ sym (there ∙ get_or_append_left bytes back 0 k here)
            | inr past ↦
                let m = k - length bytes in
                let beyond : get_or target i 0 ≡ get_or back m 0 = there
                ∙ get_or-append_right bytes back (length bytes) k 0 refl past in
                let same : get_or back m 0 ≡ get_or old i 0 = get_or-drop (at + length bytes) old m 0
                ∙ ap (λ j. get_or old j 0) (omega arith) in
                elim (cases_lt i (length old)) [
                  | inl inside ↦ torn.above i inside (omega arith) ∙ sym (beyond ∙ same)
                  | inr outside ↦ absurd (omega (arith, torn.no_longer, size))
                ]
          ]
    ])

-- ---- byte by byte

pub fades_at : (bytes left : List ℕ) → length bytes ≤ length left →
    ((i : ℕ) → i < length bytes → get_or left i 0 ≢ 0 → get_or left i 0 ≡ get_or bytes i 0) →
    Fades bytes left
fades_at [] left long each = tt
fades_at (b ∷ bytes) [] long each = absurd (omega arith)
fades_at (b ∷ bytes) (c ∷ left) long each =
    (each 0 (omega arith), fades_at bytes left (omega arith) (λ i low. each (suc i) (omega arith)))

-- of a file with a front, of which bytes right behind that may be others
module _ (front rest bytes c : List ℕ) (mixed : Mixed (length front) bytes (front ++ rest) c) where
  abbrev left : List ℕ
  left = drop (length front) c

  file_size : length (front ++ rest) ≡ length front + length rest
  file_size = length-append front rest

  pub front_stays : c ≡ front ++ drop (length front) c
  front_stays =
      let same : take (length front) c ≡ front =
      ext_get_or 0 (take (length front) c) front (omega (
        arith,
        length-take (length front) c,
        mixed.torn.no_shorter,
        file_size,
      ))
      (λ i low.
      let before : i < length front = omega (arith, length-take (length front) c) in
      get_or-take (length front) c i 0 before ∙ mixed.torn.below i (omega (arith, file_size)) before
      ∙ get_or_append_left front rest 0 i before) in
      sym (take-append-drop (length front) c) ∙ ap (λ (l : List ℕ). l ++ drop (length front) c) same

  pub left_long : length rest ≤ length (drop (length front) c)
  left_long = omega (arith, length-drop (length front) c, mixed.torn.no_shorter, file_size)

  pub left_short : length bytes ≤ length rest → length (drop (length front) c) ≤ length rest
  left_short few = omega (arith, length-drop (length front) c, mixed.torn.no_longer, file_size)

  at_left : (i : ℕ) → get_or left i 0 ≡ get_or c (length front + i) 0
  at_left i = get_or-drop (length front) c i 0

  at_rest : (i : ℕ) → get_or (front ++ rest) (length front + i) 0 ≡ get_or rest i 0
  at_rest i = get_or-append-add front rest i 0

  -- each byte is what it was or was to be
  pub each_left : (i : ℕ) → i < length rest →
      (get_or (drop (length front) c) i 0 ≡ get_or rest i 0)
      ⊎ ((i < length bytes) × (get_or (drop (length front) c) i 0 ≡ get_or bytes i 0))
  each_left i low = elim (cases_lt i (length bytes)) [
    | inl here ↦ ⊎_elim (λ e. inl (at_left i ∙ e ∙ at_rest i)) (λ e. inr (here, at_left i ∙ e))
        (mixed.each i here (omega (arith, file_size)))
    | inr past ↦ inl (at_left i ∙ mixed.torn.above (length front + i) (omega (arith, file_size)) (omega arith)
        ∙ at_rest i)
  ]

pub zero_at : (n i : ℕ) → get_or (replicate {A = ℕ} n 0) i 0 ≡ 0
zero_at n i = elim (cases_lt i n) [
  | inl low ↦ get_or-replicate n i 0 0 low
  | inr high ↦ get_or_past (replicate {A = ℕ} n 0) i 0 (omega (arith, length-replicate {A = ℕ} n 0))
]

-- bytes over zeros
pub over_zeros : (front bytes c : List ℕ) (count : ℕ) → length bytes ≤ count →
    Mixed (length front) bytes (front ++ replicate count 0) c →
    IsFaded front (bytes ++ replicate (count - length bytes) 0) c
over_zeros front bytes c count few mixed =
    let rest = replicate {A = ℕ} count 0 in
    let n = count - length bytes in
    let size : length rest ≡ count = length-replicate {A = ℕ} count 0 in
    let all : length (bytes ++ replicate n 0) ≡ count =
    omega (arith, length-append bytes (replicate n 0), length-replicate {A = ℕ} n 0) in
    record {
      rest = drop (length front) c;
      is = front_stays front rest bytes c mixed;
      fades = fades_at (bytes ++ replicate n 0) (drop (length front) c)
          (omega (arith, left_long front rest bytes c mixed, size, all))
          (λ i low some. ⊎_elim (λ e. absurd (some (e ∙ zero_at count i)))
          (λ p. p.1 ∙ sym (get_or_append_left bytes (replicate n 0) 0 i p.0))
          (each_left front rest bytes c mixed i (omega (arith, size, all))));
    }

-- zeros over bytes, up to their end
pub zeros_over : (front rest c : List ℕ) (count : ℕ) → count ≡ length rest →
    Mixed (length front) (replicate count 0) (front ++ rest) c →
    IsFaded front rest c × (length c ≡ length (front ++ rest))
zeros_over front rest c count all mixed =
    let zeros = replicate {A = ℕ} count 0 in
    let size : length zeros ≡ count = length-replicate {A = ℕ} count 0 in (
      record {
        rest = drop (length front) c;
        is = front_stays front rest zeros c mixed;
        fades = fades_at rest (drop (length front) c) (left_long front rest zeros c mixed)
            (λ i low some. ⊎_elim (λ e. e) (λ p. absurd (some (p.1 ∙ zero_at count i)))
            (each_left front rest zeros c mixed i low));
      },
      omega (arith, mixed.torn.no_shorter, mixed.torn.no_longer, length-append front rest, size),
    )

-- bytes behind the end: what was there stays
pub behind_end : (front rest bytes c : List ℕ) → Mixed (length (front ++ rest)) bytes (front ++ rest) c →
    IsFaded front rest c
behind_end front rest bytes c mixed =
    let file = front ++ rest in
    let size : length file ≡ length front + length rest = length-append front rest in
    let all : c ≡ file ++ drop (length file) c =
    sym (take-append-drop (length file) c)
    ∙ ap (λ (l : List ℕ). l ++ drop (length file) c)
    (ext_get_or 0 (take (length file) c) file (omega (arith, length-take (length file) c, mixed.torn.no_shorter))
    (λ i low.
    let before : i < length file = omega (arith, length-take (length file) c) in
    get_or-take (length file) c i 0 before ∙ mixed.torn.below i before before)) in
    record {
      rest = rest ++ drop (length file) c;
      is = all ∙ append_assoc front rest (drop (length file) c);
      fades = fades_at rest (rest ++ drop (length file) c) (omega (arith, length-append rest (drop (length file) c)))
          (λ i low some. get_or_append_left rest (drop (length file) c) 0 i low);
    }

-- ---- what a crash may leave after a call

pub faded_self : (front rest c : List ℕ) → c ≡ front ++ rest → IsFaded front rest c
faded_self front rest c is =
    record { rest = rest; is = is; fades = fades_at rest rest (omega arith) (λ i low some. refl) }

pub may_grow : (old new : List ℕ → Type 0) (at : ℕ) (bytes front rest : List ℕ) → at ≡ length (front ++ rest) →
    Only (front ++ rest) old →
    MayBeOverwritten at bytes old new → (c : List ℕ) → new c → IsFaded front rest c
may_grow old new at bytes front rest size only may c left = ⊎_elim
    (λ o. faded_self front rest c (only c o))
    (λ d.
    let P : ℕ → List ℕ → Type 0 = λ n f. Mixed n bytes f c in
    behind_end front rest bytes c (subst (λ n. P n (front ++ rest)) size (subst (λ f. P at f) (only d.0 d.1) d.2)))
    (may c left)

zeros_fade : (bytes : List ℕ) (count : ℕ) → length bytes ≤ count → Fades bytes (replicate count 0)
zeros_fade bytes count few =
    fades_at bytes (replicate count 0) (omega (arith, length-replicate {A = ℕ} count 0))
    (λ i low some. absurd (some (zero_at count i)))

-- bytes were placed over zeros
pub placed_is : (front bytes old new : List ℕ) (end count : ℕ) → length front ≡ end →
    old ≡ front ++ replicate count 0 → length bytes ≤ count →
    IsOverwritten end bytes old new → new ≡ front ++ (bytes ++ replicate (count - length bytes) 0)
placed_is front bytes old new end count size is few over =
    let z = replicate {A = ℕ} count 0 in
    let long : length old ≡ end + count = ap length is
    ∙ omega (arith, length-append front z, length-replicate {A = ℕ} count 0, size) in
    let first : take end old ≡ front = ap (take end) is ∙ take_at front z end size in
    let last : drop (end + length bytes) old ≡ replicate (count - length bytes) 0 =
    ap (drop (end + length bytes)) is ∙ sym (drop-drop (length bytes) end (front ++ z))
    ∙ ap (drop (length bytes)) (drop_at front z end size)
    ∙ drop-replicate (length bytes) count 0 in
    over (omega (arith, long)) ∙ ap (λ (l : List ℕ). l ++ (bytes ++ drop (end + length bytes) old)) first
    ∙ ap (λ (l : List ℕ). front ++ (bytes ++ l)) last

pub placed_left : (front bytes : List ℕ) (end count : ℕ) (old new : List ℕ → Type 0) → length front ≡ end →
    Only (front ++ replicate count 0) old →
    MayBeOverwritten end bytes old new → length bytes ≤ count → (c : List ℕ) → new c →
    IsFaded front (bytes ++ replicate (count - length bytes) 0) c
placed_left front bytes end count old new size only may few c left =
    let z = replicate {A = ℕ} count 0 in
    let rest = bytes ++ replicate (count - length bytes) 0 in
    let all : length rest ≡ count = omega (
      arith,
      length-append bytes (replicate (count - length bytes) 0),
      length-replicate {A = ℕ} (count - length bytes) 0,
    ) in
    ⊎_elim
    (λ o. record { rest = z; is = only c o; fades = zeros_fade rest count (omega (arith, all)) })
    (λ d.
    let P : ℕ → List ℕ → Type 0 = λ n f. Mixed n bytes f c in
    over_zeros front bytes c count few (subst (λ n. P n (front ++ z)) (sym size)
    (subst (λ f. P end f) (only d.0 d.1) d.2)))
    (may c left)

-- zeros were placed over the rest of a file
pub blanked_is : (front rest zeros old new : List ℕ) (end : ℕ) → length front ≡ end → length rest ≡ length zeros →
    zeros ≡ replicate (length zeros) 0 →
    old ≡ front ++ rest → IsOverwritten end zeros old new → new ≡ front ++ replicate (length zeros) 0
blanked_is front rest zeros old new end size same plain is over =
    let long : length old ≡ end + length zeros = ap length is ∙ omega (arith, length-append front rest, size, same) in
    let first : take end old ≡ front = ap (take end) is ∙ take_at front rest end size in
    let last : drop (end + length zeros) old ≡ [] = drop_all (end + length zeros) old (omega (arith, long)) in
    over (omega (arith, long)) ∙ ap (λ (l : List ℕ). l ++ (zeros ++ drop (end + length zeros) old)) first
    ∙ ap (λ (l : List ℕ). front ++ (zeros ++ l)) last ∙ ap (λ (l : List ℕ). front ++ l) (append-nil zeros ∙ plain)

pub blanked_left : (front rest zeros : List ℕ) (end : ℕ) (old new : List ℕ → Type 0) → length front ≡ end →
    length rest ≡ length zeros →
    zeros ≡ replicate (length zeros) 0 → Only (front ++ rest) old → MayBeOverwritten end zeros old new →
    (c : List ℕ) → new c →
    IsFaded front rest c × (length c ≡ length (front ++ rest))
blanked_left front rest zeros end old new size same plain only may c left = ⊎_elim
    (λ o. (faded_self front rest c (only c o), ap length (only c o)))
    (λ d.
    let P : ℕ → List ℕ → List ℕ → Type 0 = λ n z f. Mixed n z f c in
    zeros_over front rest c (length zeros) (sym same)
    (subst (λ n. P n (replicate (length zeros) 0) (front ++ rest)) (sym size)
    (subst (λ z. P end z (front ++ rest)) plain (subst (λ f. P end zeros f) (only d.0 d.1) d.2))))
    (may c left)

-- zeros behind zeros
pub grown_is : (front zeros old new : List ℕ) (end size n : ℕ) → length front ≡ end → end ≤ size →
    old ≡ front ++ replicate (size - end) 0 →
    zeros ≡ replicate (length zeros) 0 → n ≡ size + length zeros → (size ≡ length old → new ≡ old ++ zeros) →
    new ≡ front ++ replicate (n - end) 0
grown_is front zeros old new end size n first within is plain all more =
    let z = replicate {A = ℕ} (size - end) 0 in
    let long : size ≡ length old =
    sym (ap length is ∙ omega (arith, length-append front z, length-replicate {A = ℕ} (size - end) 0, first)) in
    more long ∙ ap (λ (l : List ℕ). l ++ zeros) is ∙ append_assoc front z zeros
    ∙ ap (λ (l : List ℕ). front ++ (z ++ l)) plain
    ∙ ap (λ (l : List ℕ). front ++ l) (replicate-append-replicate (size - end) (length zeros) 0)
    ∙ ap (λ k. front ++ replicate k 0) (omega arith)
