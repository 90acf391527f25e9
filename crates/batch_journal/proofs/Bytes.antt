-- Bytes in use, and bytes at which no batch begins.
use Rattle.std.proofs.Common.{◌≡◌, ◌≢◌, ℕ, zero, suc, ◌*◌, ◌/◌, ◌<◌, ◌≤◌, Bool, true, false}
use Rattle.std.proofs.Common.{List, [], ◌∷◌, ◌++◌, length, take, drop, replicate, refl, ap, sym, ◌∙◌, arith}
use Rattle.std.proofs.Common.{length-append}
use Rattle.std.specs.Prelude.{◌==◌, ◌&&◌}
use Rattle.std.specs.List.{list_all, list_any, flat_map}
use Rattle.std.proofs.lemmas.Bool.Decides.{nat_tests}
use Rattle.batch_journal.specs.Digits.{digits_of, is_digit}
use Rattle.batch_journal.specs.Readings.{used, agreeing}
use Rattle.batch_journal.specs.inside.Fading.{Fades}

-- no byte is 0
abbrev pub InUse : List ℕ → Type 0
InUse [] = Unit {0}
InUse (byte ∷ bytes) = (0 < byte) × InUse bytes

pub InUse-append : (a b : List ℕ) → InUse a → InUse b → InUse (a ++ b)
InUse-append [] b ha hb = hb
InUse-append (x ∷ a) b ha hb = (ha.0, InUse-append a b ha.1 hb)

pub InUse-digits_of : (count n : ℕ) → InUse (digits_of count n)
unfolding digits_of
InUse-digits_of zero n = tt
InUse-digits_of (suc count) n = (omega arith, InUse-digits_of count (n / 120))

pub InUse-flat_map : (bytes : List ℕ) → InUse (flat_map (digits_of 2) bytes)
InUse-flat_map [] = tt
InUse-flat_map (b ∷ bytes) = InUse-append (digits_of 2 b) (flat_map (digits_of 2) bytes) (InUse-digits_of 2 b)
    (InUse-flat_map bytes)

digit_from : (b : ℕ) → is_digit b ≡ true → 129 ≤ b
digit_from b h = grind (arith, nat_tests)

digit_to : (b : ℕ) → is_digit b ≡ true → b ≤ 248
digit_to b h = grind (arith, nat_tests)

pub both_left : (a b : Bool) → (a && b) ≡ true → a ≡ true
both_left true b h = refl
both_left false b h = h

pub both_right : (a b : Bool) → (a && b) ≡ true → b ≡ true
both_right true b h = h
both_right false b h = absurd cc

pub InUse-digits : (bytes : List ℕ) → list_all is_digit bytes ≡ true → InUse bytes
InUse-digits [] h = tt
InUse-digits (b ∷ bytes) h =
    let low : 129 ≤ b = digit_from b (both_left _ _ h) in
    (omega arith, InUse-digits bytes (both_right _ _ h))

-- the lengths of digits
pub length-digits_of : (count n : ℕ) → length (digits_of count n) ≡ count
unfolding digits_of
length-digits_of zero n = refl
length-digits_of (suc count) n = ap suc (length-digits_of count (n / 120))

pub length-flat_map : (bytes : List ℕ) → length (flat_map (digits_of 2) bytes) ≡ 2 * length bytes
length-flat_map [] = refl
length-flat_map (b ∷ bytes) =
    omega (
      arith,
      length-flat_map bytes,
      length-digits_of 2 b,
      length-append (digits_of 2 b)
          (flat_map (digits_of 2) bytes),
    )

-- the front of bytes that are all digits
pub digits-take : (bytes : List ℕ) (n m : ℕ) → list_all is_digit (take n bytes) ≡ true →
    list_all is_digit (take n (take m bytes)) ≡ true
digits-take bytes zero m h = refl
digits-take bytes (suc n) zero h = refl
digits-take [] (suc n) (suc m) h = refl
digits-take (b ∷ bytes) (suc n) (suc m) h =
    both (is_digit b) _ (both_left _ _ h) (digits-take bytes n m (both_right _ _ h))
  where
    both : (a b : Bool) → a ≡ true → b ≡ true → (a && b) ≡ true
    both a b ha hb = rw (ha, hb)

-- ---- no batch begins there

abbrev pub HasNoMark : List ℕ → Type 0
HasNoMark bytes = list_any (λ byte. byte == 250) bytes ≡ false

pub no_mark_push : (b : ℕ) (bytes : List ℕ) → b ≢ 250 → HasNoMark bytes → HasNoMark (b ∷ bytes)
no_mark_push b bytes other h = grind (arith, nat_tests)

pub no_mark_head : (b : ℕ) (bytes : List ℕ) → HasNoMark (b ∷ bytes) → b ≢ 250
no_mark_head b bytes h = grind (arith, nat_tests)

pub no_mark_tail : (b : ℕ) (bytes : List ℕ) → HasNoMark (b ∷ bytes) → HasNoMark bytes
no_mark_tail b bytes h = grind (arith, nat_tests)

pub no_mark-append : (a b : List ℕ) → HasNoMark a → HasNoMark b → HasNoMark (a ++ b)
no_mark-append [] b ha hb = hb
no_mark-append (x ∷ a) b ha hb =
    no_mark_push x (a ++ b) (no_mark_head x a ha) (no_mark-append a b (no_mark_tail x a ha) hb)

pub no_mark-take : (n : ℕ) (bytes : List ℕ) → HasNoMark bytes → HasNoMark (take n bytes)
no_mark-take zero bytes h = refl
no_mark-take (suc n) [] h = refl
no_mark-take (suc n) (b ∷ bytes) h =
    no_mark_push b (take n bytes) (no_mark_head b bytes h) (no_mark-take n bytes (no_mark_tail b bytes h))

pub no_mark-replicate : (n : ℕ) → HasNoMark (replicate n 0)
no_mark-replicate zero = refl
no_mark-replicate (suc n) = no_mark_push 0 (replicate n 0) (λ e. absurd (omega arith)) (no_mark-replicate n)

pub no_mark-digits_of : (count n : ℕ) → HasNoMark (digits_of count n)
unfolding digits_of
no_mark-digits_of zero n = refl
no_mark-digits_of (suc count) n = no_mark_push _ (digits_of count (n / 120)) (λ e. absurd (omega arith))
    (no_mark-digits_of count (n / 120))

pub no_mark-flat_map : (bytes : List ℕ) → HasNoMark (flat_map (digits_of 2) bytes)
no_mark-flat_map [] = refl
no_mark-flat_map (b ∷ bytes) = no_mark-append (digits_of 2 b) (flat_map (digits_of 2) bytes) (no_mark-digits_of 2 b)
    (no_mark-flat_map bytes)

pub no_mark-digits : (bytes : List ℕ) → list_all is_digit bytes ≡ true → HasNoMark bytes
no_mark-digits [] h = refl
no_mark-digits (b ∷ bytes) h =
    let high : b ≤ 248 = digit_to b (both_left _ _ h) in
    no_mark_push b bytes (λ e. absurd (omega arith)) (no_mark-digits bytes (both_right _ _ h))

pub no_mark-fades : (m : ℕ) (bytes left : List ℕ) → Fades bytes left → m ≤ length bytes → HasNoMark (take m bytes) →
    HasNoMark (take m left)
no_mark-fades zero bytes left f few h = refl
no_mark-fades (suc m) [] left f few h = absurd (omega arith)
no_mark-fades (suc m) (b ∷ bytes) (c ∷ left) f few h =
    no_mark_push c (take m left) (λ e. no_mark_head b (take m bytes) h (sym (f.0 (λ z. absurd (omega arith))) ∙ e))
    (no_mark-fades m bytes left f.1 (omega arith) (no_mark_tail b (take m bytes) h))
no_mark-fades (suc m) (b ∷ bytes) [] f few h = absurd f

-- ---- bytes in use

pub used_step : (b : ℕ) (bytes : List ℕ) → 0 < b → used (b ∷ bytes) ≡ b ∷ used bytes
used_step b bytes some = grind (arith, nat_tests)

pub used-append : (a bytes : List ℕ) → InUse a → used (a ++ bytes) ≡ a ++ used bytes
used-append [] bytes h = refl
used-append (x ∷ a) bytes h = used_step x (a ++ bytes) h.0 ∙ ap (λ (l : List ℕ). x ∷ l) (used-append a bytes h.1)

-- what is in use of bytes that have faded is a prefix of what was
pub used-fades : (bytes left : List ℕ) → Fades bytes left → length (used left) ≤ length bytes →
    used left ≡ take (length (used left)) (used bytes)
used-fades [] left f few = elim_nil (used left) few
  where
    elim_nil : (u : List ℕ) → length u ≤ 0 → u ≡ take (length u) []
    elim_nil [] few = refl
    elim_nil (x ∷ u) few = absurd (omega arith)
used-fades (b ∷ bytes) [] f few = absurd f
used-fades (b ∷ bytes) (zero ∷ left) f few = refl
used-fades (b ∷ bytes) (suc c ∷ left) f few =
    let same : suc c ≡ b = f.0 (λ z. absurd (omega arith)) in
    let is : used (b ∷ bytes) ≡ b ∷ used bytes = used_step b bytes (omega arith) in
    used_step (suc c) left (omega arith) ∙ ap (λ x. x ∷ used left) same
    ∙ ap (λ (l : List ℕ). b ∷ l)
    (used-fades bytes left f.1 (omega (arith, ap length (used_step (suc c) left (omega arith)))))
    ∙ ap (λ (l : List ℕ). take (suc (length (used left))) l) (sym is)
    ∙ ap (λ (l : List ℕ). take (length l) (used (b ∷ bytes))) (sym (used_step (suc c) left (omega arith)))

-- where a byte of those that faded was not in use, no more are in use than were
pub used_no_longer : (bytes left : List ℕ) → Fades bytes left → length (used bytes) < length bytes →
    length (used left) ≤ length (used bytes)
used_no_longer [] left f few = absurd (omega arith)
used_no_longer (b ∷ bytes) [] f few = absurd f
used_no_longer (b ∷ bytes) (zero ∷ left) f few = omega arith
used_no_longer (b ∷ bytes) (suc c ∷ left) f few =
    let same : suc c ≡ b = f.0 (λ z. absurd (omega arith)) in
    let is : used (b ∷ bytes) ≡ b ∷ used bytes = used_step b bytes (omega arith) in
    let size : length (used (b ∷ bytes)) ≡ suc (length (used bytes)) = ap length is in
    let rest = used_no_longer bytes left f.1 (omega (arith, size)) in
    omega (arith, size, rest, ap length (used_step (suc c) left (omega arith)))

pub used-replicate : (n : ℕ) → used (replicate n 0) ≡ []
used-replicate zero = refl
used-replicate (suc n) = refl

pub length-used : (bytes : List ℕ) → length (used bytes) ≤ length bytes
length-used [] = omega arith
length-used (zero ∷ bytes) = omega arith
length-used (suc b ∷ bytes) = omega (arith, length-used bytes, ap length (used_step (suc b) bytes (omega arith)))

-- ---- bytes that agree

pub agreeing-append : (a bytes : List ℕ) → agreeing a (a ++ bytes) ≡ length a
agreeing-append [] bytes = refl
agreeing-append (x ∷ a) bytes = grind (arith, nat_tests, agreeing-append a bytes)

pub agreeing-nil : (a : List ℕ) → agreeing a [] ≡ 0
agreeing-nil [] = refl
agreeing-nil (x ∷ a) = refl

pub agreeing_most : (a bytes : List ℕ) → agreeing a bytes ≤ length a
agreeing_most [] bytes = omega arith
agreeing_most (x ∷ a) [] = omega arith
agreeing_most (x ∷ a) (b ∷ bytes) = grind (arith, nat_tests, agreeing_most a bytes)

pub agreeing_all : (a bytes : List ℕ) → agreeing a bytes ≡ length a → bytes ≡ a ++ drop (length a) bytes
agreeing_all [] bytes h = refl
agreeing_all (x ∷ a) [] h = absurd (omega arith)
agreeing_all (x ∷ a) (b ∷ bytes) h =
    let same : b ≡ x = grind (arith, nat_tests) in
    let rest : agreeing a bytes ≡ length a = grind (arith, nat_tests) in
    ap (λ y. y ∷ bytes) same ∙ ap (λ (l : List ℕ). x ∷ l) (agreeing_all a bytes rest)
