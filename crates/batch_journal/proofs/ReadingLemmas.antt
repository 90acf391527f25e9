-- Batches are read as they were written, and what is read stands there.
use Rattle.std.proofs.Common.{◌≡◌, ℕ, zero, suc, ◌+◌, ◌-◌, ◌<◌, ◌≤◌, Bool, true}
use Rattle.std.proofs.Common.{false, nat_eq}
use Rattle.std.proofs.Common.{List, [], ◌∷◌, ◌++◌, length, drop, refl, ap, sym, ◌∙◌, subst}
use Rattle.std.proofs.Common.{arith, length-append, append_assoc, append-nil, eq-eqb}
use Rattle.std.specs.Prelude.{◌&&◌}
use Rattle.std.specs.List.{list_all, concat}
use Rattle.std.proofs.lemmas.Bool.Decides.{nat_tests}
use Rattle.std.proofs.lemmas.List.{drop_at, length-take, length-drop, drop-drop}
use Rattle.batch_journal.specs.Digits.{is_digit}
use Rattle.batch_journal.specs.Batches.{batch_of, batches_of, count_in, digits_in}
use Rattle.batch_journal.specs.inside.Keeping.{AreBatches}
use Rattle.batch_journal.specs.Readings.{agreeing, begins_with, is_batch, batches_in}
use Rattle.batch_journal.proofs.Bytes.{agreeing-append, agreeing_all, both_left, both_right}
use Rattle.batch_journal.proofs.BatchLemmas.{digits_are, count_is, count_most, length-batch_of}

both : (a b : Bool) → a ≡ true → b ≡ true → (a && b) ≡ true
both a b ha hb = rw (ha, hb)

pub AreBatches-push : (batches : List (List ℕ)) (batch : List ℕ) → AreBatches batches →
    list_all is_digit batch ≡ true → length batch < 1728000 →
    AreBatches (batches ++ batch ∷ [])
AreBatches-push [] batch h digits few = (digits, few, tt)
AreBatches-push (b ∷ batches) batch h digits few = (h.0, h.1, AreBatches-push batches batch h.2 digits few)

pub batches_of-push : (key : List ℕ) (number : ℕ) (batches : List (List ℕ)) (batch : List ℕ) →
    batches_of key number (batches ++ batch ∷ []) ≡ batches_of key number batches ++ batch_of key
    (number + length batches) batch
batches_of-push key number [] batch = append-nil (batch_of key number batch)
    ∙ ap (λ n. batch_of key n batch) (omega arith)
batches_of-push key number (b ∷ batches) batch =
    ap (λ (l : List ℕ). batch_of key number b ++ l)
    (batches_of-push key (suc number) batches batch
    ∙ ap (λ n. batches_of key (suc number) batches ++ batch_of key n batch) (omega arith))
    ∙ sym (append_assoc (batch_of key number b) (batches_of key (suc number) batches)
    (batch_of key (number + suc (length batches)) batch))

-- ---- one batch

pub is_batch_self : (key : List ℕ) (number : ℕ) (batch rest : List ℕ) → list_all is_digit batch ≡ true →
    length batch < 1728000 →
    is_batch key number (batch_of key number batch ++ rest) ≡ true
unfolding is_batch
is_batch_self key number batch rest digits few =
    let P : List ℕ → Type 0 =
    λ d. (list_all is_digit d && begins_with (batch_of key number d) (batch_of key number batch ++ rest)) ≡ true in
    subst P (sym (digits_are key number batch rest few))
    (both _ _ digits (eq-eqb _ _ (agreeing-append (batch_of key number batch) rest)))

-- what is known of bytes where a batch stands
pub record Stands (key : List ℕ) (number : ℕ) (bytes : List ℕ) : Type 0 where
  pub digits : list_all is_digit (digits_in bytes) ≡ true
  pub is : bytes ≡ batch_of key number (digits_in bytes) ++ drop (41 + count_in bytes) bytes
  pub count : length (digits_in bytes) ≡ count_in bytes
  pub few : length (digits_in bytes) < 1728000

pub stands : (key : List ℕ) (number : ℕ) (bytes : List ℕ) → is_batch key number bytes ≡ true → Stands key number bytes
unfolding is_batch
stands key number bytes h =
    let batch = digits_in bytes in
    let whole = batch_of key number batch in
    let all : nat_eq (agreeing whole bytes) (length whole) ≡ true =
    both_right (list_all is_digit batch) (nat_eq (agreeing whole bytes) (length whole)) h in
    let agree : agreeing whole bytes ≡ length whole = grind (arith, nat_tests) in
    let first : bytes ≡ whole ++ drop (length whole) bytes = agreeing_all whole bytes agree in
    let low : count_in bytes < 1728000 =
    subst (λ (l : List ℕ). count_in l < 1728000) (sym first)
    (count_most key number batch (drop (length whole) bytes)) in
    let short : length batch ≤ count_in bytes = omega (arith, length-take (count_in bytes) (drop 8 bytes)) in
    let count : count_in bytes ≡ length batch =
    ap count_in first ∙ count_is key number batch (drop (length whole) bytes) (omega (arith, low, short)) in
    let size : length whole ≡ 41 + count_in bytes = omega (arith, length-batch_of key number batch, count) in
    record {
      digits = both_left (list_all is_digit batch) (nat_eq (agreeing whole bytes) (length whole)) h;
      is = first ∙ ap (λ n. whole ++ drop n bytes) size;
      count = sym count;
      few = omega (arith, low, short);
    }

-- ---- one after another

pub batches_in-skip : (key : List ℕ) (number skip : ℕ) (bytes : List ℕ) →
    batches_in key number skip bytes ≡ batches_in key number 0 (drop skip bytes)
unfolding batches_in
batches_in-skip key number zero bytes = refl
batches_in-skip key number (suc skip) [] = refl
batches_in-skip key number (suc skip) (b ∷ bytes) = batches_in-skip key number skip bytes

pub batches_in-none : (key : List ℕ) (number : ℕ) (bytes : List ℕ) → is_batch key number bytes ≡ false →
    batches_in key number 0 bytes ≡ []
unfolding batches_in
batches_in-none key number [] h = refl
batches_in-none key number (b ∷ bytes) h = rw h

pub batches_in-some : (key : List ℕ) (number : ℕ) (bytes : List ℕ) → is_batch key number bytes ≡ true →
    batches_in key number 0 bytes ≡ digits_in bytes ∷ batches_in key (suc number) 0 (drop (41 + count_in bytes) bytes)
unfolding batches_in
batches_in-some key number [] h =
    let s = stands key number [] h in
    absurd (omega (
      arith,
      ap length s.is,
      length-append (batch_of key number (digits_in []))
          (drop (41 + count_in []) []),
      length-batch_of key number (digits_in []),
    ))
batches_in-some key number (b ∷ bytes) h =
    let more : 41 + count_in (b ∷ bytes) ≡ suc (40 + count_in (b ∷ bytes)) = omega arith in
    let skip = batches_in-skip key (suc number) (40 + count_in (b ∷ bytes)) bytes in
    rw h (ap (λ (l : List (List ℕ)). digits_in (b ∷ bytes) ∷ l)
    (skip ∙ ap (λ n. batches_in key (suc number) 0 (drop n (b ∷ bytes))) (sym more)))

pub batches_in-of : (key : List ℕ) (number : ℕ) (batches : List (List ℕ)) (rest : List ℕ) → AreBatches batches →
    batches_in key number 0 (batches_of key number batches ++ rest) ≡ batches ++ batches_in key
    (number + length batches) 0 rest
batches_in-of key number [] rest h = ap (λ n. batches_in key n 0 rest) (omega arith)
batches_in-of key number (batch ∷ batches) rest h =
    let whole = batch_of key number batch in
    let after = batches_of key (suc number) batches ++ rest in
    let is : (whole ++ batches_of key (suc number) batches) ++ rest ≡ whole ++ after =
    append_assoc whole (batches_of key (suc number) batches) rest in
    let size : length whole ≡ 41 + count_in (whole ++ after) =
    omega (arith, length-batch_of key number batch, count_is key number batch after h.1) in
    let behind : drop (41 + count_in (whole ++ after)) (whole ++ after) ≡ after = drop_at whole after _ size in
    ap (batches_in key number 0) is
    ∙ batches_in-some key number (whole ++ after) (is_batch_self key number batch after h.0 h.1)
    ∙ ap (λ (d : List ℕ). d ∷ batches_in key (suc number) 0 (drop (41 + count_in (whole ++ after)) (whole ++ after)))
    (digits_are key number batch after h.1)
    ∙ ap (λ (l : List ℕ). batch ∷ batches_in key (suc number) 0 l) behind
    ∙ ap (λ (l : List (List ℕ)). batch ∷ l) (batches_in-of key (suc number) batches rest h.2)
    ∙ ap (λ n. batch ∷ (batches ++ batches_in key n 0 rest)) (omega arith)

-- what is read stands at the front, and behind it no batch
pub record Read (key : List ℕ) (number : ℕ) (bytes : List ℕ) (batches : List (List ℕ)) : Type 0 where
  pub rest : List ℕ
  pub is : bytes ≡ batches_of key number batches ++ rest
  pub good : AreBatches batches
  pub none : is_batch key (number + length batches) rest ≡ false

read_one : (key : List ℕ) (number : ℕ) (bytes : List ℕ) (batches : List (List ℕ)) → Stands key number bytes →
    Read key (suc number) (drop (41 + count_in bytes) bytes) batches → Read key number bytes (digits_in bytes ∷ batches)
read_one key number bytes batches s r =
    let whole = batch_of key number (digits_in bytes) in
    record {
      rest = r.rest;
      is = s.is ∙ ap (λ (l : List ℕ). whole ++ l) r.is
          ∙ sym (append_assoc whole (batches_of key (suc number) batches) r.rest);
      good = (s.digits, s.few, r.good);
      none = ap (λ n. is_batch key n r.rest) (omega arith) ∙ r.none;
    }

pub is_batch-nil : (key : List ℕ) (number : ℕ) → is_batch key number [] ≡ false
is_batch-nil key number = step (is_batch key number []) refl
  where
    step : (o : Bool) → is_batch key number [] ≡ o → o ≡ false
    step false e = refl
    step true e =
        let s = stands key number [] e in
        absurd (omega (
          arith,
          ap length s.is,
          length-append (batch_of key number (digits_in []))
              (drop (41 + count_in []) []),
          length-batch_of key number (digits_in []),
        ))

read_none : (key : List ℕ) (number : ℕ) (bytes : List ℕ) → is_batch key number bytes ≡ false → Read key number bytes []
read_none key number bytes e = record {
  rest = bytes;
  is = refl;
  good = tt;
  none =
      ap (λ n. is_batch key n bytes) (omega arith) ∙ e;
}

pub read_in : (key : List ℕ) (number skip : ℕ) (bytes : List ℕ) →
    Read key number (drop skip bytes) (batches_in key number skip bytes)
unfolding batches_in
read_in key number zero [] = read_none key number [] (is_batch-nil key number)
read_in key number (suc skip) [] = read_none key number [] (is_batch-nil key number)
read_in key number (suc skip) (b ∷ bytes) = read_in key number skip bytes
read_in key number zero (b ∷ bytes) =
    step (is_batch key number (b ∷ bytes)) refl (read_in key (suc number) (40 + count_in (b ∷ bytes)) bytes)
  where
    step : (o : Bool) → is_batch key number (b ∷ bytes) ≡ o →
        Read key (suc number) (drop (40 + count_in (b ∷ bytes)) bytes)
        (batches_in key (suc number) (40 + count_in (b ∷ bytes)) bytes) →
        Read key number (b ∷ bytes) (batches_in key number 0 (b ∷ bytes))
    step true e r =
        let skip = batches_in-skip key (suc number) (40 + count_in (b ∷ bytes)) bytes in
        let P : List (List ℕ) → Type 0 = λ l. Read key (suc number) (drop (40 + count_in (b ∷ bytes)) bytes) l in
        let Q : ℕ → Type 0 = λ n. Read key (suc number) (drop n (b ∷ bytes))
        (batches_in key (suc number) 0 (drop n (b ∷ bytes))) in
        let more : suc (40 + count_in (b ∷ bytes)) ≡ 41 + count_in (b ∷ bytes) = omega arith in
        let rest : Q (41 + count_in (b ∷ bytes)) = subst Q more (subst P skip r) in
        subst (λ (l : List (List ℕ)). Read key number (b ∷ bytes) l) (sym (batches_in-some key number (b ∷ bytes) e))
        (read_one key number (b ∷ bytes) _ (stands key number (b ∷ bytes) e) rest)
    step false e r =
        subst (λ (l : List (List ℕ)). Read key number (b ∷ bytes) l) (sym (batches_in-none key number (b ∷ bytes) e))
        (read_none key number (b ∷ bytes) e)

-- ---- read one by one

-- so many batches were read, up to this place
pub record ReadSoFar (key bytes digits : List ℕ) (count end : ℕ) : Type 0 where
  pub digits_are : digits ++ concat (batches_in key count 0 (drop end bytes)) ≡ concat (batches_in key 0 0 bytes)
  pub count_is : count + length (batches_in key count 0 (drop end bytes)) ≡ length (batches_in key 0 0 bytes)
  pub end_is : end + length (batches_of key count (batches_in key count 0 (drop end bytes))) ≡ length
      (batches_of key 0 (batches_in key 0 0 bytes))
  pub within : end ≤ length bytes
  pub few : count ≤ end

pub record ReadAll (key bytes digits : List ℕ) (count end : ℕ) : Type 0 where
  pub digits_are : digits ≡ concat (batches_in key 0 0 bytes)
  pub count_is : count ≡ length (batches_in key 0 0 bytes)
  pub end_is : end ≡ length (batches_of key 0 (batches_in key 0 0 bytes))

pub read_start : (key bytes : List ℕ) → ReadSoFar key bytes [] 0 0
read_start key bytes = record {
  digits_are = refl;
  count_is = omega arith;
  end_is = omega arith;
  within =
      omega arith;
  few = omega arith;
}

pub read_end : (key bytes digits : List ℕ) (count end : ℕ) → ReadSoFar key bytes digits count end →
    is_batch key count (drop end bytes) ≡ false → ReadAll key bytes digits count end
read_end key bytes digits count end r h =
    let none = batches_in-none key count (drop end bytes) h in
    record {
      digits_are = sym (append-nil digits) ∙ ap (λ (l : List (List ℕ)). digits ++ concat l) (sym none) ∙ r.digits_are;
      count_is = omega (arith, ap length none, r.count_is);
      end_is = omega (arith, ap (λ (l : List (List ℕ)). length (batches_of key count l)) none, r.end_is);
    }

pub read_more : (key bytes digits : List ℕ) (count end : ℕ) → ReadSoFar key bytes digits count end →
    is_batch key count (drop end bytes) ≡ true →
    ReadSoFar key bytes (digits ++ digits_in (drop end bytes)) (count + 1) (end + (41 + count_in (drop end bytes)))
read_more key bytes digits count end r h =
    let rest = drop end bytes in
    let s = stands key count rest h in
    let n = 41 + count_in rest in
    let some : batches_in key count 0 rest ≡ digits_in rest ∷ batches_in key (suc count) 0 (drop n rest) =
    batches_in-some key count rest h in
    let next : count + 1 ≡ suc count = omega arith in
    let behind : drop (end + n) bytes ≡ drop n rest = sym (drop-drop n end bytes) in
    let more : batches_in key (count + 1) 0 (drop (end + n) bytes) ≡ batches_in key (suc count) 0 (drop n rest) =
    ap (λ k. batches_in key k 0 (drop (end + n) bytes)) next ∙ ap (batches_in key (suc count) 0) behind in
    let after = batches_in key (suc count) 0 (drop n rest) in
    let size : length rest ≡ 41 + length (digits_in rest) + length (drop n rest) =
    ap length s.is ∙ omega (
      arith,
      length-append (batch_of key count (digits_in rest)) (drop n rest),
      length-batch_of key count (digits_in rest),
    ) in
    let long : length rest ≡ length bytes - end = length-drop end bytes in
    record {
      digits_are = ap (λ (l : List (List ℕ)). (digits ++ digits_in rest) ++ concat l) more
          ∙ append_assoc digits (digits_in rest) (concat after)
          ∙ ap (λ (l : List (List ℕ)). digits ++ concat l) (sym some) ∙ r.digits_are;
      count_is = omega (arith, ap length more, ap length some, r.count_is);
      end_is = omega (
        arith,
        ap (λ (l : List (List ℕ)). length (batches_of key (count + 1) l)) more,
        ap (λ k. length (batches_of key k after)) next,
        ap (λ (l : List (List ℕ)). length (batches_of key count l)) some,
        length-append (batch_of key count (digits_in rest)) (batches_of key (suc count) after),
        length-batch_of key count (digits_in rest),
        s.count,
        r.end_is,
      );
      within = omega (arith, size, long, s.count, r.within);
      few = omega (arith, r.few);
    }
