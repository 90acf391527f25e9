-- A journal whose batches are all synced, and the bytes of its file.
use Rattle.std.proofs.Common.{◌≡◌, ◌⊎◌, inl, inr, ⊎_elim, ℕ, ◌+◌, ◌-◌, ◌<◌, ◌≤◌, Bool, true, false}
use Rattle.std.proofs.Common.{List, [], ◌∷◌, ◌++◌, length, take, drop, replicate, refl, ap, sym, ◌∙◌, subst}
use Rattle.std.proofs.Common.{arith, length-append, append_assoc, append-nil}
use Rattle.std.specs.Prelude.{IsTrue, if◌then◌else◌, Result, Ok}
use Rattle.std.specs.List.{list_all}
use Rattle.std.proofs.lemmas.List.{take_at, drop_at, take_all, length-replicate}
use Rattle.sqlite_disk.specs.Disk.{Only}
use Rattle.batch_journal.specs.Batches.{batch_of, batches_of, digits_in}
use Rattle.batch_journal.specs.Digits.{is_digit}
use Rattle.batch_journal.specs.Found.{IsFound}
use Rattle.batch_journal.specs.Heads.{IsHead, head_of}
use Rattle.batch_journal.specs.Journals.{IsFront, Survives}
use Rattle.batch_journal.specs.Readings.{batches_in, batch_key, reading, room_behind}
use Rattle.batch_journal.specs.declared.fault.JournalFault.{JournalFault}
use Rattle.batch_journal.specs.declared.head.Head.{Head}
use Rattle.batch_journal.specs.declared.reading.Found.{Found}
use Rattle.batch_journal.specs.inside.Fading.{IsFaded}
use Rattle.batch_journal.specs.inside.Keeping.{State, stored, waiting, waiting_bytes, journal_of, AreBatches, IsWhole}
use Rattle.batch_journal.specs.inside.Keeping.{IsLast, IsKept}
use Rattle.batch_journal.specs.inside.Placing.{IsZeroed, IsPlaced}
use Rattle.batch_journal.proofs.BatchLemmas.{digits_are, length-batch_of}
use Rattle.batch_journal.proofs.EndLemmas.{End}
use Rattle.batch_journal.proofs.Overwriting.{faded_self}
use Rattle.batch_journal.proofs.ReadingLemmas.{AreBatches-push, batches_of-push, batches_in-of, batches_in-none}
use Rattle.batch_journal.proofs.ReadingLemmas.{is_batch-nil}
use Rattle.batch_journal.proofs.Standing.{front_of, survives_synced, survives_waiting, when_standing, blanking_stands}

-- batches alone are read as they are
read_whole : (key : List ℕ) (batches : List (List ℕ)) → AreBatches batches →
    batches_in key 0 0 (batches_of key 0 batches) ≡ batches
read_whole key batches good =
    ap (batches_in key 0 0) (sym (append-nil (batches_of key 0 batches))) ∙ batches_in-of key 0 batches [] good
    ∙ ap (λ (l : List (List ℕ)). batches ++ l) (batches_in-none key (0 + length batches) []
    (is_batch-nil key (0 + length batches)))
    ∙ append-nil batches

-- no more is known to be synced than before, and no fewer batches
pub same_front : (least least' : ℕ) (batches batches' : List (List ℕ)) (found : Result (List (List ℕ)) JournalFault) →
    least ≡ least' → batches ≡ batches' →
    IsFront least batches found → IsFront least' batches' found
same_front least least' batches batches' found few same f =
    subst (λ n. IsFront n batches' found) few (subst (λ l. IsFront least l found) same f)

-- a file that was read: its head and batches, and what stands behind them
pub record Opened (key : List ℕ) (head : Head) (bytes : List ℕ) (found : Found) (batches : List (List ℕ)) : Type 0 where
  pub front : List ℕ
  pub rest : List ℕ
  pub front_is : front ≡ front_of key head batches
  pub is : bytes ≡ front ++ rest
  pub end : length front ≡ found.end
  pub long : length rest ≡ found.size - found.end
  pub good : AreBatches batches
  pub ends : End rest

pub opened : (key : List ℕ) (head : Head) (bytes : List ℕ) (found : Found) (f : IsFound key head bytes found) →
    Opened key head bytes found f.batches
opened key head bytes found f =
    let s = when_standing key head bytes f.batches f.stands in
    let all = batches_of (batch_key key head) 0 f.batches in
    let front = front_of key head f.batches in
    let is : bytes ≡ front ++ s.stands.rest =
    s.is ∙ ap (λ (l : List ℕ). head_of key head ++ l) s.stands.is
    ∙ sym (append_assoc (head_of key head) all s.stands.rest) in
    let size : length front ≡ found.end = length-append (head_of key head) all ∙ sym f.end in
    record {
      front = front;
      rest = s.stands.rest;
      front_is = refl;
      is = is;
      end = size;
      long = omega (arith, f.size, ap length is, length-append front s.stands.rest, size);
      good = s.stands.good;
      ends = s.stands.end;
    }

-- while its end is blanked it stands for the same
pub opened_left : (key : List ℕ) (head : Head) (bytes : List ℕ) (found : Found) (f : IsFound key head bytes found)
    (o : Opened key head bytes found f.batches) →
    (left : List ℕ) → IsFaded o.front o.rest left → length left ≡ length (o.front ++ o.rest) →
    reading key head left ≡ reading key head bytes
opened_left key head bytes found f o left faded same =
    let long : length faded.rest ≡ length o.rest =
    omega (arith, same, ap length faded.is, length-append o.front faded.rest, length-append o.front o.rest) in
    ap (reading key head) (faded.is ∙ ap (λ (l : List ℕ). l ++ faded.rest) o.front_is)
    ∙ blanking_stands key head f.batches o.rest faded.rest o.good faded.fades long o.ends ∙ sym f.stands

module _ {D : Type 0} (seen : D → List ℕ) (may_leave : D → List ℕ → Type 0) (is_usable is_clean : D → Bool) where
  pub nothing_waits : (s : State D) → s.waits ≡ false → (waiting_bytes s ≡ []) × (waiting s ≡ [])
  nothing_waits s off = (ap (λ b. if b then s.last else []) off, ap (λ b. if b then digits_in s.last ∷ [] else []) off)

  pub one_waits : (s : State D) → s.waits ≡ true → (waiting_bytes s ≡ s.last) × (waiting s ≡ digits_in s.last ∷ [])
  one_waits s on = (ap (λ b. if b then s.last else []) on, ap (λ b. if b then digits_in s.last ∷ [] else []) on)

  -- the front of what is seen has these batches
  pub stored_is : (s : State D) (batches : List (List ℕ)) (rest : List ℕ) → AreBatches batches →
      s.batch_key ≡ batch_key s.key s.head →
      seen s.disk ≡ front_of s.key s.head batches ++ rest → length (front_of s.key s.head batches) ≡ s.end →
      stored seen s ≡ batches
  stored_is s batches rest good key is size =
      let front = front_of s.key s.head batches in
      let all = batches_of (batch_key s.key s.head) 0 batches in
      let first : take s.end (seen s.disk) ≡ front = ap (take s.end) is ∙ take_at front rest s.end size in
      let behind : drop (length (head_of s.key s.head)) (take s.end (seen s.disk)) ≡ all =
      ap (drop (length (head_of s.key s.head))) first
      ∙ drop_at (head_of s.key s.head) all (length (head_of s.key s.head)) refl in
      ap (batches_in s.batch_key 0 0) behind ∙ ap (λ k. batches_in k 0 0 all) key
      ∙ read_whole (batch_key s.key s.head) batches good

  -- all batches are synced
  pub record Settled (s : State D) (batches : List (List ℕ)) : Type 0 where
    pub good : AreBatches batches
    pub count : s.count ≡ length batches
    pub end : length (front_of s.key s.head batches) ≡ s.end
    pub zeroed : IsZeroed (front_of s.key s.head batches) (s.size - s.end) (seen s.disk) (may_leave s.disk)

  pub settled_stored : (s : State D) (batches : List (List ℕ)) → s.batch_key ≡ batch_key s.key s.head →
      Settled s batches → stored seen s ≡ batches
  settled_stored s batches key t = stored_is s batches (replicate (s.size - s.end) 0) t.good key t.zeroed.seen t.end

  -- what is in a journal where no batch waits
  pub settled_batches : (s : State D) (batches : List (List ℕ)) → s.waits ≡ false →
      s.batch_key ≡ batch_key s.key s.head → Settled s batches →
      stored seen s ++ waiting s ≡ batches
  settled_batches s batches off key t =
      ap (λ (l : List (List ℕ)). stored seen s ++ l) (nothing_waits s off).1 ∙ append-nil (stored seen s)
      ∙ settled_stored s batches key t

  pub settled_survives : (s : State D) (batches : List (List ℕ)) → s.waits ≡ false →
      s.batch_key ≡ batch_key s.key s.head → s.end + room_behind ≤ s.size → Settled s batches →
      (c : List ℕ) → may_leave s.disk c → IsFront (length (stored seen s)) (stored seen s ++ waiting s)
      (reading s.key s.head c)
  settled_survives s batches off key room t c left =
      same_front (length batches) (length (stored seen s)) batches (stored seen s ++ waiting s) (reading s.key s.head c)
      (ap length (sym (settled_stored s batches key t))) (sym (settled_batches s batches off key t))
      (survives_synced s.key s.head batches (s.size - s.end) c t.good (omega (arith, room))
      (faded_self (front_of s.key s.head batches) (replicate (s.size - s.end) 0) c (t.zeroed.only c left)))

  settled_whole : (s : State D) (batches : List (List ℕ)) → s.waits ≡ false → s.batch_key ≡ batch_key s.key s.head →
      Settled s batches → IsWhole seen may_leave s
  settled_whole s batches off key t =
      let front = front_of s.key s.head batches in
      let is = settled_stored s batches key t in
      let none : waiting_bytes s ≡ [] = (nothing_waits s off).0 in
      let count : s.size - s.end ≡ s.size - (s.end + length (waiting_bytes s)) = omega (arith, ap length none) in
      let zeros : replicate (s.size - s.end) 0 ≡ waiting_bytes s ++ replicate
      (s.size - (s.end + length (waiting_bytes s))) 0 =
      ap (λ n. replicate n 0) count
      ∙ ap (λ (l : List ℕ). l ++ replicate (s.size - (s.end + length (waiting_bytes s))) 0) (sym none) in
      record {
        front = front;
        front_is = ap (λ k. head_of s.key s.head ++ batches_of k 0 batches) (sym key)
            ∙ ap (λ l. head_of s.key s.head ++ batches_of s.batch_key 0 l) (sym is);
        end = t.end;
        count = t.count ∙ ap length (sym is);
        good = subst AreBatches (sym is) t.good;
        file = t.zeroed.seen ∙ ap (λ (l : List ℕ). front ++ l) zeros;
        settled = λ e c left. t.zeroed.only c left ∙ sym t.zeroed.seen;
        crash = λ c left. faded_self front _ c (t.zeroed.only c left ∙ ap (λ (l : List ℕ). front ++ l) zeros);
      }

  pub kept_settled : (s : State D) → s.waits ≡ false → IsHead s.head → s.batch_key ≡ batch_key s.key s.head →
      s.zeros ≡ replicate room_behind 0 →
      IsTrue (is_usable s.disk) → s.end + room_behind ≤ s.size → s.size ≤ 536870912 → s.count ≤ s.end →
      (IsTrue (is_clean s.disk) → (batches : List (List ℕ)) × Settled s batches) →
      IsKept seen may_leave is_usable is_clean s
  kept_settled s off head key zeros usable room few counted clean = record {
    head = head;
    key = key;
    zeros = zeros;
    usable = λ b. usable;
    room = λ b. omega (arith, room, ap length (nothing_waits s off).0);
    few = few;
    counted = λ b. counted;
    last = λ b on. absurd (not_both s.waits off on);
    whole = λ b h. let t = clean h in settled_whole s t.0 off key t.1;
    survives = λ h c left. let t = clean h in settled_survives s t.0 off key room t.1 c left;
  }
    where
      not_both : (b : Bool) → b ≡ false → b ≡ true → ⊥
      not_both b off on = absurd cc

  -- the front of a journal that is whole
  pub front_is : (s : State D) → s.batch_key ≡ batch_key s.key s.head → (w : IsWhole seen may_leave s) →
      w.front ≡ front_of s.key s.head (stored seen s)
  front_is s key w = w.front_is ∙ ap (λ k. head_of s.key s.head ++ batches_of k 0 (stored seen s)) key

  -- a journal in which no batch waits is settled
  pub settled_of : (s : State D) → s.waits ≡ false → s.batch_key ≡ batch_key s.key s.head →
      IsWhole seen may_leave s → Settled s (stored seen s)
  settled_of s off key w =
      let is = front_is s key w in
      let none : waiting_bytes s ≡ [] = (nothing_waits s off).0 in
      let count : s.size - (s.end + length (waiting_bytes s)) ≡ s.size - s.end = omega (arith, ap length none) in
      let file : seen s.disk ≡ front_of s.key s.head (stored seen s) ++ replicate (s.size - s.end) 0 =
      w.file ∙ ap (λ (l : List ℕ). w.front ++ (l ++ replicate (s.size - (s.end + length (waiting_bytes s))) 0)) none
      ∙ ap (λ n. w.front ++ replicate n 0) count ∙ ap (λ (l : List ℕ). l ++ replicate (s.size - s.end) 0) is in
      record {
        good = w.good;
        count = w.count;
        end = ap length (sym is) ∙ w.end;
        zeroed = record { seen = file; only = λ c left. w.settled off c left ∙ file };
      }

  -- no batch waits where all are synced
  pub none_waits : (s : State D) → length (stored seen s) ≡ length (stored seen s ++ waiting s) → s.waits ≡ false
  none_waits s all = step s.waits refl
    where
      step : (b : Bool) → s.waits ≡ b → b ≡ false
      step false e = refl
      step true e = absurd (omega (arith, all, length-append (stored seen s) (waiting s), ap length (one_waits s e).1))

  -- the zeros that a journal has
  pub zeros_size : (s : State D) → IsKept seen may_leave is_usable is_clean s → (n : ℕ) → n ≡ length s.zeros →
      n ≡ room_behind
  zeros_size s kept n is = is ∙ ap length kept.zeros ∙ length-replicate {A = ℕ} room_behind 0

  -- a journal that was begun
  pub settled_new : (s : State D) (front : List ℕ) → front ≡ front_of s.key s.head [] → length front ≡ s.end →
      s.count ≡ 0 →
      IsZeroed front (s.size - length front) (seen s.disk) (may_leave s.disk) → Settled s []
  settled_new s front is size none zeroed =
      let P : List ℕ → ℕ → Type 0 = λ f n. IsZeroed f (s.size - n) (seen s.disk) (may_leave s.disk) in
      record {
        good = tt;
        count = none;
        end = ap length (sym is) ∙ size;
        zeroed = subst (λ f. P f s.end) is (subst (λ n. P front n) size zeroed);
      }

  -- a journal that was opened
  pub settled_opened : (s : State D) {bytes : List ℕ} {batches : List (List ℕ)} (found : Found)
      (o : Opened s.key s.head bytes found batches) → s.end ≡ found.end →
      s.size ≡ found.size → s.count ≡ found.count → found.count ≡ length batches → (n : ℕ) →
      n ≡ found.size - found.end →
      IsZeroed o.front n (seen s.disk) (may_leave s.disk) → Settled s batches
  settled_opened s {bytes} {batches} found o end size count counted n long zeroed =
      let P : List ℕ → ℕ → Type 0 = λ f k. IsZeroed f k (seen s.disk) (may_leave s.disk) in
      record {
        good = o.good;
        count = count ∙ counted;
        end = ap length (sym o.front_is) ∙ o.end ∙ sym end;
        zeroed = subst (λ f. P f (s.size - s.end)) o.front_is
            (subst (λ k. P o.front k) (omega (arith, long, size, end)) zeroed);
      }

-- a file that was not full
pub most_size : (end size n room last : ℕ) → size ≤ 536870912 → (end + last + room ≤ size)
    ⊎ (size + room ≤ 536870912) → (end + last + room ≤ size → n ≡ size) →
    (n ≡ size) ⊎ (n ≡ size + room) → n ≤ 536870912
most_size end size n room last few (inl fits) need most = omega (arith, need fits, few)
most_size end size n room last few (inr free) need (inl same) = omega (arith, same, few)
most_size end size n room last few (inr free) need (inr grown) = omega (arith, grown, free)

pub room_is : room_behind ≡ 1048576
unfolding room_behind
room_is = refl
