-- What a file stands for.
use Rattle.std.proofs.Common.{◌≡◌, ◌≢◌, ◌⊎◌, inl, inr, ⊎_elim, ℕ, zero, suc, ◌+◌, ◌<◌, ◌≤◌, Bool, true}
use Rattle.std.proofs.Common.{false, nat_eq}
use Rattle.std.proofs.Common.{List, [], ◌∷◌, ◌++◌, length, drop, replicate, get_or, refl, ap, sym, ◌∙◌, subst}
use Rattle.std.proofs.Common.{arith, length-append, append_assoc, append-nil, eq-eqb}
use Rattle.std.specs.Prelude.{if◌then◌else◌, Result, Ok, Err}
use Rattle.std.proofs.lemmas.Bool.{cases_lt}
use Rattle.std.proofs.lemmas.Bool.Decides.{nat_tests}
use Rattle.std.proofs.lemmas.List.{take_at, drop_at, length-replicate, take_all, get_or_past}
use Rattle.batch_journal.specs.Digits.{is_digit}
use Rattle.batch_journal.specs.Batches.{batch_of, batches_of}
use Rattle.batch_journal.specs.Heads.{opened_head, head_of, other_head}
use Rattle.batch_journal.specs.Readings.{used, agreeing, is_batch, batches_in, is_end, room_behind, behind_head}
use Rattle.batch_journal.specs.Readings.{batch_key, reading}
use Rattle.batch_journal.specs.Journals.{IsFront}
use Rattle.batch_journal.specs.declared.fault.JournalFault.{JournalFault}
use Rattle.batch_journal.specs.declared.fault.JournalFault.TheVariants as fault
use Rattle.batch_journal.specs.declared.head.Head.{Head}
use Rattle.batch_journal.specs.inside.Fading.{Fades, IsFaded}
use Rattle.batch_journal.specs.inside.Keeping.{AreBatches}
use Rattle.batch_journal.specs.inside.Placing.{IsBegun}
use Rattle.batch_journal.proofs.Bytes.{agreeing-append, agreeing_all, used_no_longer, used-replicate, length-used}
use Rattle.batch_journal.proofs.BatchLemmas.{length-batch_of, length-head_of}
use Rattle.batch_journal.proofs.ReadingLemmas.{AreBatches-push, batches_of-push, batches_in-of, batches_in-none}
use Rattle.batch_journal.proofs.ReadingLemmas.{read_in}
use Rattle.batch_journal.proofs.EndLemmas.{room_some, End, ends, when_ends, end_fades, cut_off_is_none, torn}
use Rattle.batch_journal.proofs.EndLemmas.{all_written, end-replicate}
use Rattle.std.specs.List.{list_all}

-- what stands behind the head
pub record Behind (key : List ℕ) (bytes : List ℕ) (batches : List (List ℕ)) : Type 0 where
  pub rest : List ℕ
  pub is : bytes ≡ batches_of key 0 batches ++ rest
  pub good : AreBatches batches
  pub none : is_batch key (length batches) rest ≡ false
  pub end : End rest

pub behind_is : (key bytes : List ℕ) (batches : List (List ℕ)) → Behind key bytes batches →
    behind_head key bytes ≡ Ok batches
unfolding behind_head
behind_is key bytes batches b =
    let found : batches_in key 0 0 bytes ≡ batches =
    ap (batches_in key 0 0) b.is ∙ batches_in-of key 0 batches b.rest b.good
    ∙ ap (λ n. batches ++ batches_in key n 0 b.rest) (omega arith)
    ∙ ap (λ (l : List (List ℕ)). batches ++ l) (batches_in-none key (length batches) b.rest b.none)
    ∙ append-nil batches in
    let behind : drop (length (batches_of key 0 batches)) bytes ≡ b.rest =
    ap (drop (length (batches_of key 0 batches))) b.is
    ∙ drop_at (batches_of key 0 batches) b.rest (length (batches_of key 0 batches)) refl in
    let end : is_end (drop (length (batches_of key 0 batches)) bytes) ≡ true = ap is_end behind ∙ ends b.rest b.end in
    rw (found, end) refl

ok_or_not : (o : Bool) (a b : List (List ℕ)) (f : JournalFault) →
    ◌≡◌ {A = Result (List (List ℕ)) JournalFault} (if o then Ok a else Err f) (Ok b) → (o ≡ true) × (a ≡ b)
ok_or_not true a b f h = (refl, cc)
ok_or_not false a b f h = absurd cc

ok_first : (o p : Bool) (a : Result (List (List ℕ)) JournalFault) (b : List (List ℕ)) (f g : JournalFault) →
    ◌≡◌ {A = Result (List (List ℕ)) JournalFault} (if o then a else (if p then Err f else Err g)) (Ok b) → (o ≡ true)
    × (a ≡ Ok b)
ok_first true p a b f g h = (refl, h)
ok_first false true a b f g h = absurd cc
ok_first false false a b f g h = absurd cc

pub when_behind : (key bytes : List ℕ) (batches : List (List ℕ)) → behind_head key bytes ≡ Ok batches →
    Behind key bytes batches
unfolding behind_head
when_behind key bytes batches h =
    let found = batches_in key 0 0 bytes in
    let both = ok_or_not (is_end (drop (length (batches_of key 0 found)) bytes)) found batches
    (fault.Damaged (length found)) h in
    let r = read_in key 0 0 bytes in
    let behind : drop (length (batches_of key 0 found)) bytes ≡ r.rest =
    ap (drop (length (batches_of key 0 found))) r.is
    ∙ drop_at (batches_of key 0 found) r.rest (length (batches_of key 0 found)) refl in
    let end : is_end r.rest ≡ true = ap is_end (sym behind) ∙ both.0 in
    subst (λ (l : List (List ℕ)). Behind key bytes l) both.1
    (record {
      rest = r.rest;
      is = r.is;
      good = r.good;
      none = ap (λ n. is_batch key n r.rest) (omega arith) ∙ r.none;
      end = when_ends r.rest end;
    })

-- ---- with the head

pub reading_is : (key : List ℕ) (head : Head) (bytes : List ℕ) →
    reading key head (head_of key head ++ bytes) ≡ behind_head (batch_key key head) bytes
unfolding reading
reading_is key head bytes =
    let whole = head_of key head in
    let agree : agreeing whole (whole ++ bytes) ≡ length whole = agreeing-append whole bytes in
    let all : nat_eq (agreeing whole (whole ++ bytes)) (length whole) ≡ true = eq-eqb _ _ agree in
    rw all (ap (λ n. behind_head (batch_key key head) (drop n (whole ++ bytes))) agree
    ∙ ap (behind_head (batch_key key head)) (drop_at whole bytes (length whole) refl))

pub record Standing (key : List ℕ) (head : Head) (bytes : List ℕ) (batches : List (List ℕ)) : Type 0 where
  pub behind : List ℕ
  pub is : bytes ≡ head_of key head ++ behind
  pub stands : Behind (batch_key key head) behind batches

pub standing_is : (key : List ℕ) (head : Head) (bytes : List ℕ) (batches : List (List ℕ)) →
    Standing key head bytes batches → reading key head bytes ≡ Ok batches
standing_is key head bytes batches s =
    ap (reading key head) s.is ∙ reading_is key head s.behind ∙ behind_is (batch_key key head) s.behind batches s.stands

pub when_standing : (key : List ℕ) (head : Head) (bytes : List ℕ) (batches : List (List ℕ)) →
    reading key head bytes ≡ Ok batches → Standing key head bytes batches
unfolding reading
when_standing key head bytes batches h =
    let whole = head_of key head in
    let at = agreeing whole bytes in
    let both = ok_first (nat_eq at (length whole)) (nat_eq (get_or bytes at 0) 0)
    (behind_head (batch_key key head) (drop at bytes)) batches
    fault.NotAJournal (other_head head at) h in
    let agree : at ≡ length whole = grind (arith, nat_tests, both.0) in
    record {
      behind = drop (length whole) bytes;
      is = agreeing_all whole bytes agree;
      stands = when_behind (batch_key key head) (drop (length whole) bytes) batches
          (ap (λ n. behind_head (batch_key key head) (drop n bytes)) (sym agree) ∙ both.1);
    }

-- ---- what a crash leaves

-- the head and the batches
abbrev pub front_of : List ℕ → Head → List (List ℕ) → List ℕ
front_of key head batches = head_of key head ++ batches_of (batch_key key head) 0 batches

stands_so : (key : List ℕ) (head : Head) (batches : List (List ℕ)) (rest : List ℕ) → AreBatches batches →
    is_batch (batch_key key head) (length batches) rest ≡ false → End rest →
    reading key head (front_of key head batches ++ rest) ≡ Ok batches
stands_so key head batches rest good none end =
    standing_is key head _ batches
    (record {
      behind = batches_of (batch_key key head) 0 batches ++ rest;
      is = append_assoc (head_of key head) (batches_of (batch_key key head) 0 batches) rest;
      stands = record { rest = rest; is = refl; good = good; none = none; end = end };
    })

fades_long : (bytes left : List ℕ) → Fades bytes left → length bytes ≤ length left
fades_long [] left f = omega arith
fades_long (b ∷ bytes) [] f = absurd f
fades_long (b ∷ bytes) (c ∷ left) f = omega (arith, fades_long bytes left f.1)

-- zeros of which a crash may have grown more
zeros_stand : (key : List ℕ) (head : Head) (batches : List (List ℕ)) (count : ℕ) (rest : List ℕ) →
    AreBatches batches → room_behind ≤ count →
    Fades (replicate count 0) rest → reading key head (front_of key head batches ++ rest) ≡ Ok batches
zeros_stand key head batches count rest good room f =
    let zeros = replicate {A = ℕ} count 0 in
    let size : length zeros ≡ count = length-replicate {A = ℕ} count 0 in
    let some : 1 ≤ count = omega (arith, room_some, room) in
    let few : length (used rest) ≤ length (used zeros) =
    used_no_longer zeros rest f (omega (arith, size, ap length (used-replicate count))) in
    let end : End rest = end_fades zeros rest f (fades_long zeros rest f)
    (omega (arith, few, ap length (used-replicate count))) (end-replicate count room) in
    stands_so key head batches rest good (cut_off_is_none (batch_key key head) (length batches) rest end.cut) end

-- what is left of a file whose batches are all synced
pub survives_synced : (key : List ℕ) (head : Head) (batches : List (List ℕ)) (count : ℕ) (left : List ℕ) →
    AreBatches batches → room_behind ≤ count →
    IsFaded (front_of key head batches) (replicate count 0) left →
    IsFront (length batches) batches (reading key head left)
survives_synced key head batches count left good room f = record {
  count = length batches;
  enough = omega arith;
  within = omega arith;
  is = ap (reading key head) f.is ∙ zeros_stand key head batches count f.rest good room f.fades
      ∙ ap Ok (sym (take_all (length batches) batches (omega arith)));
}

-- what is left of a file whose last batch is not synced
pub survives_waiting : (key : List ℕ) (head : Head) (batches : List (List ℕ)) (batch : List ℕ) (count : ℕ)
    (left : List ℕ) → AreBatches batches →
    list_all is_digit batch ≡ true → length batch < 1728000 → room_behind ≤ count →
    IsFaded (front_of key head batches) (batch_of (batch_key key head) (length batches) batch ++ replicate count 0)
    left →
    IsFront (length batches) (batches ++ batch ∷ []) (reading key head left)
survives_waiting key head batches batch count left good digits few room f =
    elim (cases_lt (length (used f.rest)) (length whole)) [
      | inl less ↦
          let t = torn (batch_key key head) (length batches) batch f.rest count digits few room f.fades
          (omega (arith, fades_long _ f.rest f.fades, size)) less in
          record {
            count = length batches;
            enough = omega arith;
            within = omega (arith, length-append batches (batch ∷ []));
            is = ap (reading key head) f.is ∙ stands_so key head batches f.rest good t.none t.end
                ∙ ap Ok (sym (take_at batches (batch ∷ []) (length batches) refl));
          }
      | inr all ↦
          let w = all_written whole f.rest count f.fades all in
          let more : front_of key head batches ++ (whole ++ w.rest)
          ≡ front_of key head (batches ++ batch ∷ []) ++ w.rest =
          sym (append_assoc (front_of key head batches) whole w.rest)
          ∙ ap (λ (l : List ℕ). l ++ w.rest)
          (append_assoc (head_of key head) (batches_of (batch_key key head) 0 batches) whole
          ∙ ap (λ (l : List ℕ). head_of key head ++ l)
          (ap (λ n. batches_of (batch_key key head) 0 batches ++ batch_of (batch_key key head) n batch) (omega arith)
          ∙ sym (batches_of-push (batch_key key head) 0 batches batch))) in
          record {
            count = length (batches ++ batch ∷ []);
            enough = omega (arith, length-append batches (batch ∷ []));
            within = omega arith;
            is = ap (reading key head) (f.is ∙ ap (λ (l : List ℕ). front_of key head batches ++ l) w.is ∙ more)
                ∙ zeros_stand key head (batches ++ batch ∷ []) count w.rest (AreBatches-push batches batch good digits
                few) room w.fades
                ∙ ap Ok (sym (take_all (length (batches ++ batch ∷ [])) (batches ++ batch ∷ []) (omega arith)));
          }
    ]
  where
    whole : List ℕ
    whole = batch_of (batch_key key head) (length batches) batch

    size : length (whole ++ replicate count 0) ≡ 41 + length batch + count
    size = omega (
      arith,
      length-append whole (replicate count 0),
      length-batch_of (batch_key key head)
          (length batches) batch,
      length-replicate {A = ℕ} count 0,
    )

-- while the end is blanked a file stands for the same
pub blanking_stands : (key : List ℕ) (head : Head) (batches : List (List ℕ)) (rest left : List ℕ) → AreBatches batches →
    Fades rest left → length left ≡ length rest → End rest →
    reading key head (front_of key head batches ++ left) ≡ Ok batches
blanking_stands key head batches rest left good f same h =
    let end : End left = end_fades rest left f (omega (arith, same)) (omega (arith, same, length-used left)) h in
    stands_so key head batches left good (cut_off_is_none (batch_key key head) (length batches) left end.cut) end

-- ---- what the code finds

pub behind_ok : (key bytes : List ℕ) (end : ℕ) → end ≡ length (batches_of key 0 (batches_in key 0 0 bytes)) →
    is_end (drop end bytes) ≡ true →
    behind_head key bytes ≡ Ok (batches_in key 0 0 bytes)
unfolding behind_head
behind_ok key bytes end is h =
    let e : is_end (drop (length (batches_of key 0 (batches_in key 0 0 bytes))) bytes) ≡ true =
    ap (λ n. is_end (drop n bytes)) (sym is) ∙ h in rw e refl

pub behind_err : (key bytes : List ℕ) (end : ℕ) → end ≡ length (batches_of key 0 (batches_in key 0 0 bytes)) →
    is_end (drop end bytes) ≡ false →
    behind_head key bytes ≡ Err (fault.Damaged (length (batches_in key 0 0 bytes)))
unfolding behind_head
behind_err key bytes end is h =
    let e : is_end (drop (length (batches_of key 0 (batches_in key 0 0 bytes))) bytes) ≡ false =
    ap (λ n. is_end (drop n bytes)) (sym is) ∙ h in rw e refl

pub reading_all : (key : List ℕ) (head : Head) (bytes : List ℕ) →
    agreeing (head_of key head) bytes ≡ length (head_of key head) →
    reading key head bytes ≡ behind_head (batch_key key head) (drop (agreeing (head_of key head) bytes) bytes)
unfolding reading
reading_all key head bytes agree =
    let all : nat_eq (agreeing (head_of key head) bytes) (length (head_of key head)) ≡ true = eq-eqb _ _ agree in
    rw all refl

pub reading_cut : (key : List ℕ) (head : Head) (bytes : List ℕ) →
    nat_eq (agreeing (head_of key head) bytes) (length (head_of key head)) ≡ false →
    get_or bytes (agreeing (head_of key head) bytes) 0 ≡ 0 → reading key head bytes ≡ Err fault.NotAJournal
unfolding reading
reading_cut key head bytes other none =
    let zero_is : nat_eq (get_or bytes (agreeing (head_of key head) bytes) 0) 0 ≡ true = eq-eqb _ _ none in
    rw (other, zero_is) refl

pub reading_other : (key : List ℕ) (head : Head) (bytes : List ℕ) →
    nat_eq (agreeing (head_of key head) bytes) (length (head_of key head)) ≡ false →
    nat_eq (get_or bytes (agreeing (head_of key head) bytes) 0) 0 ≡ false →
    reading key head bytes ≡ Err (other_head head (agreeing (head_of key head) bytes))
unfolding reading
reading_other key head bytes other some = rw (other, some) refl

-- ---- a head that was begun

agreeing_within : (a bytes : List ℕ) → agreeing a bytes ≤ length bytes
agreeing_within [] bytes = omega arith
agreeing_within (x ∷ a) [] = omega arith
agreeing_within (x ∷ a) (b ∷ bytes) = grind (arith, nat_tests, agreeing_within a bytes)

differs : (a b : ℕ) → a < b → nat_eq a b ≡ false
differs a b less = grind (arith, nat_tests)

-- where the first byte differs there is no journal
first_differs : (key : List ℕ) (head : Head) (bytes : List ℕ) → agreeing (head_of key head) bytes ≡ 0 →
    reading key head bytes ≡ Err fault.NotAJournal
first_differs key head bytes none = step (nat_eq (get_or bytes (agreeing whole bytes) 0) 0) refl
  where
    whole : List ℕ
    whole = head_of key head

    other : nat_eq (agreeing whole bytes) (length whole) ≡ false
    other = differs (agreeing whole bytes) (length whole) (omega (arith, none, length-head_of key head))

    step : (o : Bool) → nat_eq (get_or bytes (agreeing whole bytes) 0) 0 ≡ o →
        reading key head bytes ≡ Err fault.NotAJournal
    step true e = reading_cut key head bytes other (grind (arith, nat_tests))
    step false e = reading_other key head bytes other e ∙ ap (λ n. Err (other_head head n)) none

not_same : (a b : ℕ) → a ≡ b → nat_eq a b ≡ false → ⊥
not_same a b same e = let yes : nat_eq a b ≡ true = eq-eqb a b same in absurd cc

zero_or_same : (c x : ℕ) → (c ≢ 0 → c ≡ x) → nat_eq c x ≡ false → c ≡ 0
zero_or_same zero x h e = refl
zero_or_same (suc c) x h e = let same : suc c ≡ x = h (λ z. absurd (omega arith)) in absurd (not_same (suc c) x same e)

-- of a head of which each byte is as it is or 0, all agrees, or the first byte that differs is 0
head_or_zero : (whole rest left : List ℕ) → Fades (whole ++ rest) left → (agreeing whole left ≡ length whole)
    ⊎ (get_or left (agreeing whole left) 0 ≡ 0)
head_or_zero [] rest left f = inl refl
head_or_zero (x ∷ whole) rest [] f = absurd f
head_or_zero (x ∷ whole) rest (c ∷ left) f = step (nat_eq c x) refl (head_or_zero whole rest left f.1)
  where
    step : (o : Bool) → nat_eq c x ≡ o → (agreeing whole left ≡ length whole)
        ⊎ (get_or left (agreeing whole left) 0 ≡ 0) →
        (agreeing (x ∷ whole) (c ∷ left) ≡ suc (length whole))
        ⊎ (get_or (c ∷ left) (agreeing (x ∷ whole) (c ∷ left)) 0 ≡ 0)
    step true e (inl all) = let one : agreeing (x ∷ whole) (c ∷ left) ≡ suc (agreeing whole left) = rw e refl in
        inl (one ∙ ap suc all)
    step true e (inr none) =
        let one : agreeing (x ∷ whole) (c ∷ left) ≡ suc (agreeing whole left) = rw e refl in
        inr (ap (λ n. get_or (c ∷ left) n 0) one ∙ none)
    step false e more =
        let none : agreeing (x ∷ whole) (c ∷ left) ≡ 0 = rw e refl in
        inr (ap (λ n. get_or (c ∷ left) n 0) none ∙ zero_or_same c x f.0 e)

seam : (c x : ℕ) (left whole b : List ℕ) → c ≡ x → left ≡ whole ++ b → c ∷ left ≡ x ∷ (whole ++ b)
seam c x left whole b same e = ap (λ y. y ∷ left) same ∙ ap (λ (l : List ℕ). x ∷ l) e

fades_behind : (whole rest left : List ℕ) → Fades (whole ++ rest) left → agreeing whole left ≡ length whole →
    (b : List ℕ) × (left ≡ whole ++ b) × Fades rest b
fades_behind [] rest left f all = (left, refl, f)
fades_behind (x ∷ whole) rest [] f all = absurd f
fades_behind (x ∷ whole) rest (c ∷ left) f all =
    let same : c ≡ x = grind (arith, nat_tests) in
    let more : agreeing whole left ≡ length whole = grind (arith, nat_tests) in
    let b = fades_behind whole rest left f.1 more in
    (b.0, seam c x left whole b.0 same b.1, b.2)

-- a head begins with no 0
no_head : (key : List ℕ) (head : Head) (bytes : List ℕ) → get_or bytes 0 0 ≡ 0 → agreeing (head_of key head) bytes ≡ 0
unfolding head_of opened_head
no_head key head [] e = refl
no_head key head (c ∷ bytes) e = let other : nat_eq c 249 ≡ false = differs c 249 (omega (arith, e)) in rw other refl

-- a head with faded zeros behind it is an empty journal
empty_stands : (key : List ℕ) (head : Head) (count : ℕ) (left rest : List ℕ) → left ≡ head_of key head ++ rest →
    room_behind ≤ count → Fades (replicate count 0) rest → reading key head left ≡ Ok []
empty_stands key head count left rest is room f =
    ap (reading key head) (is ∙ ap (λ (l : List ℕ). l ++ rest) (sym (append-nil (head_of key head))))
    ∙ zeros_stand key head [] count rest tt room f

-- what a crash leaves of a file on which a head was begun is an empty journal, or none
pub begun_stands : (key : List ℕ) (head : Head) (left : List ℕ) → IsBegun (head_of key head) left →
    (reading key head left ≡ Ok []) ⊎ (reading key head left ≡ Err fault.NotAJournal)
begun_stands key head left (inl short) = inr (few (agreeing whole left) refl)
  where
    whole : List ℕ
    whole = head_of key head

    few : (n : ℕ) → agreeing whole left ≡ n → reading key head left ≡ Err fault.NotAJournal
    few zero e = first_differs key head left e
    few (suc n) e =
        reading_cut key head left (differs (agreeing whole left) (length whole)
        (omega (arith, agreeing_within whole left, short, length-head_of key head)))
        (get_or_past left (agreeing whole left) 0 (omega (arith, e, short)))
begun_stands key head left (inr (inl first)) = inr (first_differs key head left (no_head key head left first))
begun_stands key head left (inr (inr p)) = step (nat_eq (agreeing whole left) (length whole)) refl
  where
    whole : List ℕ
    whole = head_of key head

    fades : Fades (whole ++ replicate p.count 0) left
    fades = subst (λ (l : List ℕ). Fades (whole ++ replicate p.count 0) l) (sym p.faded.is) p.faded.fades

    step : (o : Bool) → nat_eq (agreeing whole left) (length whole) ≡ o → (reading key head left ≡ Ok [])
        ⊎ (reading key head left ≡ Err fault.NotAJournal)
    step true e =
        let all : agreeing whole left ≡ length whole = grind (arith, nat_tests) in
        let b = fades_behind whole (replicate p.count 0) left fades all in
        inl (empty_stands key head p.count left b.0 b.1 p.room b.2)
    step false e = inr (⊎_elim (λ all. absurd (not_same (agreeing whole left) (length whole) all e))
        (λ none. reading_cut key head left e none) (head_or_zero whole (replicate p.count 0) left fades))
