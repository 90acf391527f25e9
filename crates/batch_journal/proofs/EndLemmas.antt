-- What stands behind the batches, and what a crash makes of it.
use Rattle.std.proofs.Common.{◌≡◌, inl, inr, ℕ, zero, suc, ◌+◌, ◌-◌, ◌<◌, ◌≤◌, Bool}
use Rattle.std.proofs.Common.{true, false}
use Rattle.std.proofs.Common.{List, [], ◌∷◌, ◌++◌, length, take, drop, replicate, get_or, refl, ap, sym, ◌∙◌, subst}
use Rattle.std.proofs.Common.{arith, length-append, append-nil}
use Rattle.std.specs.List.{list_all}
use Rattle.std.proofs.lemmas.Bool.{cases_lt}
use Rattle.std.proofs.lemmas.Bool.Decides.{nat_tests}
use Rattle.std.proofs.lemmas.List.{length-take, drop-take, drop_all, get_or-take}
use Rattle.std.proofs.lemmas.List.{length-replicate}
use Rattle.batch_journal.specs.Digits.{is_digit}
use Rattle.batch_journal.specs.Batches.{batch_of, count_in, digits_in}
use Rattle.batch_journal.specs.Readings.{used, is_batch, is_cut_off, is_end, room_behind}
use Rattle.batch_journal.specs.inside.Fading.{Fades}
use Rattle.batch_journal.proofs.Bytes.{HasNoMark, used_step, used-append, used-fades, used-replicate}
use Rattle.batch_journal.proofs.Bytes.{digits-take, no_mark-fades}
use Rattle.batch_journal.proofs.Bytes.{no_mark-take, no_mark-append, no_mark-replicate}
use Rattle.batch_journal.proofs.BatchLemmas.{field_bytes, tail_of, digits_are, count_is, length-batch_of, batch_is}
use Rattle.batch_journal.proofs.BatchLemmas.{InUse-batch_of, no_mark-batch_of}
use Rattle.batch_journal.proofs.ReadingLemmas.{stands}

-- what is cut off
pub record CutOff (bytes : List ℕ) : Type 0 where
  pub first : (0 < length bytes) → get_or bytes 0 0 ≡ 250
  pub short : length bytes < 41 + count_in bytes
  pub digits : list_all is_digit (digits_in bytes) ≡ true

pub cut_off : (bytes : List ℕ) → CutOff bytes → is_cut_off bytes ≡ true
unfolding is_cut_off
cut_off [] h = refl
cut_off (b ∷ bytes) h =
    let first : b ≡ 250 = h.first (omega arith) in
    let short = h.short in
    let digits = h.digits in
    grind (arith, nat_tests, first, short, digits)

pub when_cut_off : (bytes : List ℕ) → is_cut_off bytes ≡ true → CutOff bytes
unfolding is_cut_off
when_cut_off [] h = record { first = λ some. absurd (omega arith); short = omega arith; digits = refl }
when_cut_off (b ∷ bytes) h = record {
  first = λ some. grind (arith, nat_tests);
  short = grind (arith, nat_tests);
  digits = grind (arith, nat_tests);
}

-- of a prefix of bytes: what it says that it has
count-take : (n : ℕ) (bytes : List ℕ) → 8 ≤ n → count_in (take n bytes) ≡ count_in bytes
count-take n bytes many =
    let five : get_or (take n bytes) 5 0 ≡ get_or bytes 5 0 = get_or-take n bytes 5 0 (omega arith) in
    let six : get_or (take n bytes) 6 0 ≡ get_or bytes 6 0 = get_or-take n bytes 6 0 (omega arith) in
    let seven : get_or (take n bytes) 7 0 ≡ get_or bytes 7 0 = get_or-take n bytes 7 0 (omega arith) in
    cc

-- a front whose count and digits are those of a batch, or that is short, is cut off
front_digits : (n : ℕ) (bytes : List ℕ) → 8 ≤ n → list_all is_digit (digits_in bytes) ≡ true →
    list_all is_digit (digits_in (take n bytes)) ≡ true
front_digits n bytes many h =
    let more : 8 + (n - 8) ≡ n = omega arith in
    let behind : drop 8 (take n bytes) ≡ take (n - 8) (drop 8 bytes) = ap (λ m. drop 8 (take m bytes)) (sym more)
    ∙ drop-take 8 (n - 8) bytes in
    ap (λ k. list_all is_digit (take k (drop 8 (take n bytes)))) (count-take n bytes many)
    ∙ ap (λ (l : List ℕ). list_all is_digit (take (count_in bytes) l)) behind
    ∙ digits-take (drop 8 bytes) (count_in bytes) (n - 8) h

none_behind : (n : ℕ) (bytes : List ℕ) → length bytes ≤ 8 → list_all is_digit (take n (drop 8 bytes)) ≡ true
none_behind n bytes few =
    let none : drop 8 bytes ≡ [] = drop_all 8 bytes few in
    ap (λ (l : List ℕ). list_all is_digit (take n l)) none ∙ nothing n
  where
    nothing : (n : ℕ) → list_all is_digit (take n []) ≡ true
    nothing zero = refl
    nothing (suc n) = refl

-- a prefix of what was cut off, or of a batch
pub front_cut_off : (n : ℕ) (bytes : List ℕ) → (0 < length bytes → get_or bytes 0 0 ≡ 250) →
    list_all is_digit (digits_in bytes) ≡ true →
    n < 41 + count_in bytes → CutOff (take n bytes)
front_cut_off n bytes first digits few = elim (cases_lt n 8) [
  | inl short ↦ record {
    first = λ some. starts some;
    short = omega (arith, length-take n bytes);
    digits = none_behind (count_in (take n bytes)) (take n bytes) (omega (arith, length-take n bytes));
  }
  | inr long ↦ record {
    first = λ some. starts some;
    short = omega (arith, length-take n bytes, count-take n bytes long);
    digits = front_digits n bytes long digits;
  }
]
  where
    starts : 0 < length (take n bytes) → get_or (take n bytes) 0 0 ≡ 250
    starts some = get_or-take n bytes 0 0 (omega (arith, length-take n bytes))
        ∙ first (omega (arith, length-take n bytes))

-- no whole batch stands where what is in use is cut off
pub cut_off_is_none : (key : List ℕ) (number : ℕ) (bytes : List ℕ) → CutOff (used bytes) →
    is_batch key number bytes ≡ false
cut_off_is_none key number bytes h = step (is_batch key number bytes) refl
  where
    step : (o : Bool) → is_batch key number bytes ≡ o → o ≡ false
    step false e = refl
    step true e =
        let s = stands key number bytes e in
        let batch = digits_in bytes in
        let rest = drop (41 + count_in bytes) bytes in
        let is : used bytes ≡ batch_of key number batch ++ used rest =
        ap used s.is ∙ used-append (batch_of key number batch) rest (InUse-batch_of key number batch s.digits) in
        let count : count_in (used bytes) ≡ length batch = ap count_in is
        ∙ count_is key number batch (used rest) s.few in
        absurd (omega (
          arith,
          h.short,
          count,
          ap length is,
          length-append (batch_of key number batch) (used rest),
          length-batch_of key number batch,
        ))

-- ---- the end

pub record End (bytes : List ℕ) : Type 0 where
  pub cut : CutOff (used bytes)
  pub room : room_behind ≤ length bytes
  pub no_mark : HasNoMark (take (room_behind - 1) (drop 1 bytes))

pub ends : (bytes : List ℕ) → End bytes → is_end bytes ≡ true
unfolding is_end
ends bytes h =
    let cut = cut_off (used bytes) h.cut in
    let no_mark = h.no_mark in
    let room = h.room in
    grind (arith, nat_tests, cut, no_mark, room)

pub when_ends : (bytes : List ℕ) → is_end bytes ≡ true → End bytes
unfolding is_end
when_ends bytes h = record {
  cut = when_cut_off (used bytes) (grind (arith, nat_tests));
  room = grind (arith, nat_tests);
  no_mark = grind (arith, nat_tests);
}

pub room_some : 1 ≤ room_behind
unfolding room_behind
room_some = omega arith

no_mark_behind : (bytes left : List ℕ) → Fades bytes left → room_behind ≤ length bytes →
    HasNoMark (take (room_behind - 1) (drop 1 bytes)) →
    HasNoMark (take (room_behind - 1) (drop 1 left))
no_mark_behind [] left f room none = absurd (omega (arith, room_some))
no_mark_behind (b ∷ bytes) [] f room none = absurd f
no_mark_behind (b ∷ bytes) (c ∷ left) f room none =
    no_mark-fades (room_behind - 1) bytes left f.1 (omega (arith, room_some)) none

-- an end that has faded is an end
pub end_fades : (bytes left : List ℕ) → Fades bytes left → length bytes ≤ length left →
    length (used left) ≤ length bytes → End bytes → End left
end_fades bytes left f long few h =
    let front : used left ≡ take (length (used left)) (used bytes) = used-fades bytes left f few in
    let n = length (used left) in
    record {
      cut = subst CutOff (sym front) (front_cut_off n (used bytes) h.cut.first h.cut.digits
          (omega (arith, h.cut.short, ap length front, length-take n (used bytes))));
      room = omega (arith, h.room);
      no_mark = no_mark_behind bytes left f h.room h.no_mark;
    }

-- zeros are an end
pub end-replicate : (n : ℕ) → room_behind ≤ n → End (replicate n 0)
end-replicate n room = record {
  cut = subst CutOff (sym (used-replicate n)) (record {
    first = λ some. absurd (omega arith);
    short = omega arith;
    digits = refl;
  });
  room = omega (arith, length-replicate {A = ℕ} n 0);
  no_mark = none n;
}
  where
    none : (n : ℕ) → HasNoMark (take (room_behind - 1) (drop 1 (replicate n 0)))
    none zero = no_mark-take (room_behind - 1) [] refl
    none (suc n) = no_mark-take (room_behind - 1) (replicate n 0) (no_mark-replicate n)

-- ---- a batch that was written over zeros, of which a crash left what it left

-- all of it, or none
pub record Torn (key : List ℕ) (number : ℕ) (left : List ℕ) : Type 0 where
  pub end : End left
  pub none : is_batch key number left ≡ false

pub record Written (batch left : List ℕ) (count : ℕ) : Type 0 where
  pub rest : List ℕ
  pub is : left ≡ batch ++ rest
  pub fades : Fades (replicate count 0) rest

pub all_written : (batch left : List ℕ) (count : ℕ) → Fades (batch ++ replicate count 0) left →
    length batch ≤ length (used left) → Written batch left count
all_written [] left count f long = record { rest = left; is = refl; fades = f }
all_written (b ∷ batch) [] count f long = absurd f
all_written (b ∷ batch) (zero ∷ left) count f long = absurd (omega arith)
all_written (b ∷ batch) (suc c ∷ left) count f long =
    let same : suc c ≡ b = f.0 (λ z. absurd (omega arith)) in
    let w = all_written batch left count f.1 (omega (arith, ap length (used_step (suc c) left (omega arith)))) in
    record { rest = w.rest; is = ap (λ x. x ∷ left) same ∙ ap (λ (l : List ℕ). b ∷ l) w.is; fades = w.fades }

pub torn : (key : List ℕ) (number : ℕ) (batch left : List ℕ) (count : ℕ) → list_all is_digit batch ≡ true →
    length batch < 1728000 →
    room_behind ≤ count → Fades (batch_of key number batch ++ replicate count 0) left →
    41 + length batch + count ≤ length left →
    length (used left) < length (batch_of key number batch) → Torn key number left
torn key number batch left count digits few room f long short =
    let whole = batch_of key number batch in
    let file = whole ++ replicate count 0 in
    let n = length (used left) in
    let size : length file ≡ 41 + length batch + count =
    omega (
      arith,
      length-append whole (replicate count 0),
      length-batch_of key number batch,
      length-replicate {A =
          ℕ} count 0,
    ) in
    let in_use : used file ≡ whole = used-append whole (replicate count 0) (InUse-batch_of key number batch digits)
    ∙ ap (λ (l : List ℕ). whole ++ l) (used-replicate count) ∙ append-nil whole in
    let front : used left ≡ take n whole =
    used-fades file left f (omega (arith, size, short, length-batch_of key number batch))
    ∙ ap (λ (l : List ℕ). take n l) in_use in
    let whole_is : whole ++ [] ≡ whole = append-nil whole in
    let says : count_in whole ≡ length batch = ap count_in (sym whole_is) ∙ count_is key number batch [] few in
    let all : list_all is_digit (digits_in whole) ≡ true =
    ap (λ (l : List ℕ). list_all is_digit (digits_in l)) (sym whole_is)
    ∙ ap (list_all is_digit) (digits_are key number batch [] few) ∙ digits in
    let cut : CutOff (used left) =
    subst CutOff (sym front)
    (front_cut_off n whole (λ some. ap (λ (l : List ℕ). get_or l 0 0) (batch_is key number batch)) all
    (omega (arith, says, short, length-batch_of key number batch))) in
    let t = field_bytes number batch ++ (batch ++ tail_of key number batch) in
    let plain : HasNoMark (drop 1 file) =
    subst (λ (l : List ℕ). HasNoMark (drop 1 (l ++ replicate count 0))) (sym (batch_is key number batch))
    (no_mark-append t (replicate count 0)
    (subst (λ (l : List ℕ). HasNoMark (drop 1 l)) (batch_is key number batch)
    (no_mark-batch_of key number batch digits))
    (no_mark-replicate count)) in
    record {
      end = record {
        cut = cut;
        room = omega (arith, room, long);
        no_mark =
            no_mark_behind file left f (omega (arith, size, room)) (no_mark-take (room_behind - 1) (drop 1 file) plain);
      };
      none = cut_off_is_none key number left cut;
    }
