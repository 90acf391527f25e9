-- A journal's fields are kept by its calls.
use Rattle.std.proofs.Common.{◌≡◌, ◌⊎◌, inl, inr, ⊎_elim, ℕ, ◌+◌, ◌-◌, ◌<◌, ◌≤◌, Bool, true, false}
use Rattle.std.proofs.Common.{List, [], ◌∷◌, ◌++◌, length, take, drop, replicate, refl, ap, sym, ◌∙◌, subst}
use Rattle.std.proofs.Common.{arith, length-append, append_assoc, append-nil}
use Rattle.std.specs.Prelude.{IsTrue, if◌then◌else◌, Result, Ok}
use Rattle.std.specs.List.{list_all}
use Rattle.std.proofs.lemmas.List.{take_at, drop_at, take_all, length-replicate}
use Rattle.sqlite_disk.specs.Disk.{Only}
use Rattle.batch_journal.specs.Batches.{batch_of, batches_of, digits_in}
use Rattle.batch_journal.specs.Digits.{is_digit}
use Rattle.batch_journal.specs.Found.{IsFound}
use Rattle.batch_journal.specs.Heads.{IsHead, head_of}
use Rattle.batch_journal.specs.Journals.{IsFront, Survives}
use Rattle.batch_journal.specs.Readings.{batches_in, batch_key, reading, room_behind}
use Rattle.batch_journal.specs.declared.fault.JournalFault.{JournalFault}
use Rattle.batch_journal.specs.declared.head.Head.{Head}
use Rattle.batch_journal.specs.declared.reading.Found.{Found}
use Rattle.batch_journal.specs.inside.Fading.{IsFaded}
use Rattle.batch_journal.specs.inside.Keeping.{State, stored, waiting, waiting_bytes, journal_of, AreBatches, IsWhole}
use Rattle.batch_journal.specs.inside.Keeping.{IsLast, IsKept}
use Rattle.batch_journal.specs.inside.Placing.{IsZeroed, IsPlaced}
use Rattle.batch_journal.proofs.BatchLemmas.{digits_are, length-batch_of}
use Rattle.batch_journal.proofs.EndLemmas.{End}
use Rattle.batch_journal.proofs.Overwriting.{faded_self}
use Rattle.batch_journal.proofs.ReadingLemmas.{AreBatches-push, batches_of-push, batches_in-of, batches_in-none}
use Rattle.batch_journal.proofs.ReadingLemmas.{is_batch-nil}
use Rattle.batch_journal.proofs.Standing.{front_of, survives_synced, survives_waiting, when_standing, blanking_stands}
use Rattle.batch_journal.proofs.SettledLemmas.{same_front, nothing_waits, one_waits, stored_is, Settled}
use Rattle.batch_journal.proofs.SettledLemmas.{settled_stored, settled_of, kept_settled, front_is}

module _ {D : Type 0} (seen : D → List ℕ) (may_leave : D → List ℕ → Type 0) (is_usable is_clean : D → Bool) where
  -- ---- a batch more

  -- the same journal, with a batch that waits
  pub record Waits (old new : State D) (batch : List ℕ) : Type 0 where
    pub key : new.key ≡ old.key
    pub head : new.head ≡ old.head
    pub batch_key : new.batch_key ≡ old.batch_key
    pub zeros : new.zeros ≡ old.zeros
    pub end : new.end ≡ old.end
    pub count : new.count ≡ old.count
    pub waits : new.waits ≡ true
    pub digits : list_all is_digit batch ≡ true
    pub few : length batch < 1728000
    pub last : new.last ≡ batch_of old.batch_key old.count batch
    pub size : new.size ≤ 536870912

  last_digits : (old new : State D) (batch : List ℕ) → Waits old new batch → waiting new ≡ batch ∷ []
  last_digits old new batch w =
      (one_waits seen may_leave is_usable is_clean new w.waits).1
      ∙ ap (λ d. d ∷ [])
      (ap digits_in (w.last ∙ sym (append-nil (batch_of old.batch_key old.count batch)))
      ∙ digits_are old.batch_key old.count batch [] w.few)

  -- what is seen of it begins as before
  waits_stored : (old new : State D) (batch rest : List ℕ) → old.waits ≡ false →
      old.batch_key ≡ batch_key old.key old.head → Waits old new batch →
      Settled seen may_leave is_usable is_clean old (stored seen old) →
      seen new.disk ≡ front_of old.key old.head (stored seen old) ++ rest →
      stored seen new ≡ stored seen old
  waits_stored old new batch rest off key w t is =
      let ts = stored seen old in
      let same : front_of old.key old.head ts ≡ front_of new.key new.head ts =
      ap (λ k. front_of k old.head ts) (sym w.key) ∙ ap (λ h. front_of new.key h ts) (sym w.head) in
      stored_is seen may_leave is_usable is_clean new ts rest t.good
      (w.batch_key ∙ key ∙ ap (λ k. batch_key k old.head) (sym w.key) ∙ ap (λ h. batch_key new.key h) (sym w.head))
      (is ∙ ap (λ (l : List ℕ). l ++ rest) same)
      (ap length (sym same) ∙ t.end ∙ sym w.end)

  -- what a crash leaves of it stands for all batches, or for those that are synced
  waits_survives : (old new : State D) (batch : List ℕ) (count : ℕ) (c : List ℕ) →
      old.batch_key ≡ batch_key old.key old.head → Waits old new batch →
      Settled seen may_leave is_usable is_clean old (stored seen old) → stored seen new ≡ stored seen old →
      room_behind ≤ count →
      IsFaded (front_of old.key old.head (stored seen old)) (new.last ++ replicate count 0) c →
      IsFront (length (stored seen new)) (stored seen new ++ waiting new) (reading new.key new.head c)
  waits_survives old new batch count c key w t same room f =
      let ts = stored seen old in
      let last : new.last ≡ batch_of (batch_key old.key old.head) (length ts) batch =
      w.last ∙ ap (λ k. batch_of k old.count batch) key
      ∙ ap (λ n. batch_of (batch_key old.key old.head) n batch) t.count in
      let all : ts ++ batch ∷ [] ≡ stored seen new ++ waiting new =
      ap (λ (l : List (List ℕ)). l ++ batch ∷ []) (sym same)
      ∙ ap (λ (l : List (List ℕ)). stored seen new ++ l) (sym (last_digits old new batch w)) in
      let found : reading old.key old.head c ≡ reading new.key new.head c =
      ap (λ k. reading k old.head c) (sym w.key) ∙ ap (λ h. reading new.key h c) (sym w.head) in
      subst (λ r. IsFront (length (stored seen new)) (stored seen new ++ waiting new) r) found
      (same_front (length ts) (length (stored seen new)) (ts ++ batch ∷ []) (stored seen new ++ waiting new)
      (reading old.key old.head c)
      (ap length (sym same)) all
      (survives_waiting old.key old.head ts batch count c t.good w.digits w.few room
      (subst (λ (l : List ℕ). IsFaded (front_of old.key old.head ts) (l ++ replicate count 0) c) last f)))

  -- the same where its bytes were not placed
  unplaced_survives : (old new : State D) (batch c : List ℕ) → old.end + room_behind ≤ old.size →
      old.batch_key ≡ batch_key old.key old.head → Waits old new batch →
      Settled seen may_leave is_usable is_clean old (stored seen old) → stored seen new ≡ stored seen old →
      IsFaded (front_of old.key old.head (stored seen old)) (replicate (old.size - old.end) 0) c →
      IsFront (length (stored seen new)) (stored seen new ++ waiting new) (reading new.key new.head c)
  unplaced_survives old new batch c room key w t same f =
      let ts = stored seen old in
      let found : reading old.key old.head c ≡ reading new.key new.head c =
      ap (λ k. reading k old.head c) (sym w.key) ∙ ap (λ h. reading new.key h c) (sym w.head) in
      let r = survives_synced old.key old.head ts (old.size - old.end) c t.good (omega (arith, room)) f in
      let size : length (stored seen new) ≡ length ts = ap length same in
      let all : length (stored seen new ++ waiting new) ≡ length ts + length (waiting new) =
      omega (arith, length-append (stored seen new) (waiting new), size) in
      record {
        count = length ts;
        enough = omega (arith, size);
        within = omega (arith, all);
        is = sym found ∙ r.is ∙ ap Ok (front ts r.count r.enough r.within
            ∙ sym (ap (λ (l : List (List ℕ)). take (length ts) (l ++ waiting new)) same
            ∙ take_at ts (waiting new) (length ts) refl));
      }
    where
      front : (ts : List (List ℕ)) (n : ℕ) → length ts ≤ n → n ≤ length ts → take n ts ≡ ts
      front ts n enough within = take_all n ts enough

  pub kept_waiting : (old new : State D) (batch : List ℕ) → old.waits ≡ false → old.broken ≡ false →
      IsKept seen may_leave is_usable is_clean old → Waits old new batch →
      new.broken ≡ false → IsTrue (is_usable new.disk) → is_clean new.disk ≡ is_clean old.disk →
      old.end + length new.last + room_behind ≤ new.size →
      ((front : List ℕ) → length front ≡ old.end →
      IsZeroed front (old.size - old.end) (seen old.disk) (may_leave old.disk) →
      seen new.disk ≡ front ++ (new.last ++ replicate (new.size - (old.end + length new.last)) 0)) →
      ((front : List ℕ) → length front ≡ old.end →
      IsZeroed front (old.size - old.end) (seen old.disk) (may_leave old.disk) →
      (c : List ℕ) → may_leave new.disk c →
      IsFaded front (new.last ++ replicate (new.size - (old.end + length new.last)) 0) c) →
      IsKept seen may_leave is_usable is_clean new × (IsTrue (is_clean new.disk) → stored seen new ≡ stored seen old)
  kept_waiting old new batch off whole kept w fine usable clean room file placed =
      let key : new.batch_key ≡ batch_key new.key new.head =
      w.batch_key ∙ kept.key ∙ ap (λ k. batch_key k old.head) (sym w.key)
      ∙ ap (λ h. batch_key new.key h) (sym w.head) in
      let bytes : waiting_bytes new ≡ new.last = (one_waits seen may_leave is_usable is_clean new w.waits).0 in
      let size : length (waiting_bytes new) ≡ length new.last = ap length bytes in
      let settled = λ (h : IsTrue (is_clean new.disk)). settled_of seen may_leave is_usable is_clean old off kept.key
      (kept.whole whole (subst IsTrue clean h)) in
      let same = λ (h : IsTrue (is_clean new.disk)).
      let t = settled h in
      waits_stored old new batch _ off kept.key w t (file (front_of old.key old.head (stored seen old)) t.end
      t.zeroed) in
      let left = new.size - (old.end + length new.last) in
      let count : new.size - (new.end + length (waiting_bytes new)) ≡ left = omega (arith, size, w.end) in
      let rest : new.last ++ replicate left 0 ≡ waiting_bytes new ++ replicate
      (new.size - (new.end + length (waiting_bytes new))) 0 =
      ap (λ (l : List ℕ). l ++ replicate left 0) (sym bytes)
      ∙ ap (λ n. waiting_bytes new ++ replicate n 0) (sym count) in (
        record {
          head = subst IsHead (sym w.head) kept.head;
          key = key;
          zeros = w.zeros ∙ kept.zeros;
          usable = λ b. usable;
          room = λ b. omega (arith, size, room, w.end);
          few = w.size;
          counted = λ b. omega (arith, w.count, w.end, kept.counted whole);
          last = λ b on. record {
            batch = batch;
            digits = w.digits;
            few = w.few;
            is = w.last
                ∙ ap (λ k. batch_of k old.count batch) (sym w.batch_key)
                ∙ ap (λ n. batch_of new.batch_key n batch) (sym w.count);
          };
          whole = λ b h.
              let t = settled h in
              let ts = stored seen old in
              let front = front_of old.key old.head ts in
              record {
                front = front;
                front_is = ap (λ k. head_of old.key old.head ++ batches_of k 0 ts) (sym kept.key ∙ sym w.batch_key)
                    ∙ ap (λ k. head_of k old.head ++ batches_of new.batch_key 0 ts) (sym w.key)
                    ∙ ap (λ d. head_of new.key d ++ batches_of new.batch_key 0 ts) (sym w.head)
                    ∙ ap (λ l. head_of new.key new.head ++ batches_of new.batch_key 0 l) (sym (same h));
                end = t.end ∙ sym w.end;
                count = w.count ∙ t.count ∙ ap length (sym (same h));
                good = subst AreBatches (sym (same h)) t.good;
                file = file front t.end t.zeroed ∙ ap (λ (l : List ℕ). front ++ l) rest;
                settled = λ e. absurd (not_both new.waits e w.waits);
                crash = λ c may. subst (λ (l : List ℕ). IsFaded front l c) rest (placed front t.end t.zeroed c may);
              };
          survives = λ h c may.
              let t = settled h in
              waits_survives old new batch left c kept.key w t (same h) (omega (arith, room))
              (placed (front_of old.key old.head (stored seen old)) t.end t.zeroed c may);
        },
        same,
      )
    where
      not_both : (b : Bool) → b ≡ false → b ≡ true → ⊥
      not_both b off on = absurd cc

  -- the same, of bytes that are those of the last batch
  pub kept_placed : (old new : State D) (batch bytes : List ℕ) → bytes ≡ new.last → old.waits ≡ false →
      old.broken ≡ false →
      IsKept seen may_leave is_usable is_clean old → Waits old new batch → new.broken ≡ false →
      IsTrue (is_usable new.disk) → is_clean new.disk ≡ is_clean old.disk →
      old.end + length bytes + room_behind ≤ new.size →
      ((front : List ℕ) → length front ≡ old.end →
      IsZeroed front (old.size - old.end) (seen old.disk) (may_leave old.disk) →
      seen new.disk ≡ front ++ (bytes ++ replicate (new.size - (old.end + length bytes)) 0)) →
      ((front : List ℕ) → length front ≡ old.end →
      IsZeroed front (old.size - old.end) (seen old.disk) (may_leave old.disk) →
      (c : List ℕ) → may_leave new.disk c →
      IsFaded front (bytes ++ replicate (new.size - (old.end + length bytes)) 0) c) →
      IsKept seen may_leave is_usable is_clean new × (IsTrue (is_clean new.disk) → stored seen new ≡ stored seen old)
  kept_placed old new batch bytes is off whole kept w fine usable clean =
      let P : List ℕ → Type 0 = λ b.
      old.end + length b + room_behind ≤ new.size →
      ((front : List ℕ) → length front ≡ old.end →
      IsZeroed front (old.size - old.end) (seen old.disk) (may_leave old.disk) →
      seen new.disk ≡ front ++ (b ++ replicate (new.size - (old.end + length b)) 0)) →
      ((front : List ℕ) → length front ≡ old.end →
      IsZeroed front (old.size - old.end) (seen old.disk) (may_leave old.disk) →
      (c : List ℕ) → may_leave new.disk c → IsFaded front (b ++ replicate (new.size - (old.end + length b)) 0) c) →
      IsKept seen may_leave is_usable is_clean new × (IsTrue (is_clean new.disk) → stored seen new ≡ stored seen old) in
      subst P (sym is) (λ room file placed. kept_waiting old new batch off whole kept w fine usable clean room file
      placed)

  -- ---- a sync

  -- the same journal, whose last batch is synced
  pub record Syncs (old new : State D) : Type 0 where
    pub key : new.key ≡ old.key
    pub head : new.head ≡ old.head
    pub batch_key : new.batch_key ≡ old.batch_key
    pub zeros : new.zeros ≡ old.zeros
    pub size : new.size ≡ old.size
    pub end : new.end ≡ old.end + length old.last
    pub count : new.count ≡ old.count + 1
    pub waits : new.waits ≡ false
    pub seen_same : seen new.disk ≡ seen old.disk
    pub only : Only (seen new.disk) (may_leave new.disk)

  synced_settled : (old new : State D) → old.waits ≡ true → old.batch_key ≡ batch_key old.key old.head →
      IsWhole seen may_leave old →
      IsLast old.batch_key old.last old.count → Syncs old new →
      Settled seen may_leave is_usable is_clean new (stored seen old ++ waiting old)
  synced_settled old new on key w last s =
      let ts = stored seen old in
      let batch = last.batch in
      let bk = batch_key old.key old.head in
      let waits : waiting old ≡ batch ∷ [] =
      (one_waits seen may_leave is_usable is_clean old on).1
      ∙ ap (λ d. d ∷ []) (ap digits_in (last.is ∙ sym (append-nil (batch_of old.batch_key old.count batch)))
      ∙ digits_are old.batch_key old.count batch [] last.few) in
      let bytes : waiting_bytes old ≡ old.last = (one_waits seen may_leave is_usable is_clean old on).0 in
      let placed : batch_of bk (0 + length ts) batch ≡ old.last =
      ap (λ n. batch_of bk n batch) (omega (arith, w.count)) ∙ ap (λ k. batch_of k old.count batch) (sym key)
      ∙ sym last.is in
      let more : front_of old.key old.head (ts ++ batch ∷ []) ≡ w.front ++ old.last =
      ap (λ (l : List ℕ). head_of old.key old.head ++ l) (batches_of-push bk 0 ts batch)
      ∙ sym (append_assoc (head_of old.key old.head) (batches_of bk 0 ts) (batch_of bk (0 + length ts) batch))
      ∙ ap (λ (l : List ℕ). front_of old.key old.head ts ++ l) placed
      ∙ ap (λ (l : List ℕ). l ++ old.last) (sym (front_is seen may_leave is_usable is_clean old key w)) in
      let same : front_of new.key new.head (ts ++ batch ∷ []) ≡ front_of old.key old.head (ts ++ batch ∷ []) =
      ap (λ k. front_of k new.head (ts ++ batch ∷ [])) s.key ∙ ap (λ h. front_of old.key h (ts ++ batch ∷ [])) s.head in
      let size : length (front_of new.key new.head (ts ++ batch ∷ [])) ≡ new.end =
      omega (arith, ap length same, ap length more, length-append w.front old.last, w.end, s.end) in
      let count : old.size - (old.end + length (waiting_bytes old)) ≡ new.size - new.end =
      omega (arith, ap length bytes, s.size, s.end) in
      let file : seen new.disk ≡ front_of new.key new.head (ts ++ batch ∷ []) ++ replicate (new.size - new.end) 0 =
      s.seen_same ∙ w.file
      ∙ ap (λ (l : List ℕ). w.front ++ (l ++ replicate (old.size - (old.end + length (waiting_bytes old))) 0)) bytes
      ∙ ap (λ n. w.front ++ (old.last ++ replicate n 0)) count
      ∙ sym (append_assoc w.front old.last (replicate (new.size - new.end) 0))
      ∙ ap (λ (l : List ℕ). l ++ replicate (new.size - new.end) 0) (sym (same ∙ more)) in
      subst (λ l. Settled seen may_leave is_usable is_clean new (ts ++ l)) (sym waits)
      (record {
        good = AreBatches-push ts batch w.good last.digits last.few;
        count = omega (arith, s.count, w.count, length-append ts (batch ∷ []));
        end = size;
        zeroed = record { seen = file; only = λ c left. s.only c left ∙ file };
      })

  pub record Synced (old new : State D) : Type 0 where
    pub kept : IsKept seen may_leave is_usable is_clean new
    pub stored_all : IsTrue (is_clean new.disk) → stored seen new ≡ stored seen old ++ waiting old

  pub kept_synced : (old new : State D) → old.waits ≡ true → old.broken ≡ false →
      IsKept seen may_leave is_usable is_clean old → Syncs old new →
      IsTrue (is_usable new.disk) → is_clean new.disk ≡ is_clean old.disk → Synced old new
  kept_synced old new on whole kept s usable clean =
      let last = kept.last whole on in
      let bytes : waiting_bytes old ≡ old.last = (one_waits seen may_leave is_usable is_clean old on).0 in
      let long : length old.last ≡ 41 + length last.batch = ap length last.is
      ∙ length-batch_of old.batch_key old.count last.batch in
      let key : new.batch_key ≡ batch_key new.key new.head =
      s.batch_key ∙ kept.key ∙ ap (λ k. batch_key k old.head) (sym s.key)
      ∙ ap (λ h. batch_key new.key h) (sym s.head) in
      let settled = λ (h : IsTrue (is_clean new.disk)). synced_settled old new on kept.key
      (kept.whole whole (subst IsTrue clean h)) last s in
      record {
        kept = kept_settled seen may_leave is_usable is_clean new s.waits (subst IsHead (sym s.head) kept.head) key
            (s.zeros ∙ kept.zeros) usable
            (omega (arith, kept.room whole, ap length bytes, s.end, s.size)) (omega (arith, kept.few, s.size))
            (omega (arith, kept.counted whole, s.count, s.end, long))
            (λ h. (stored seen old ++ waiting old, settled h));
        stored_all = λ h. settled_stored seen may_leave is_usable is_clean new (stored seen old ++ waiting old) key
            (settled h);
      }

  -- ---- a call that failed

  -- the same journal, which is broken
  pub record Fails (old new : State D) : Type 0 where
    pub key : new.key ≡ old.key
    pub head : new.head ≡ old.head
    pub batch_key : new.batch_key ≡ old.batch_key
    pub zeros : new.zeros ≡ old.zeros
    pub size : new.size ≡ old.size
    pub broken : new.broken ≡ true

  not_broken : {P : Type 0} → (b : Bool) → b ≡ true → b ≡ false → P
  not_broken b on off = absurd cc

  kept_broken : (old new : State D) → IsKept seen may_leave is_usable is_clean old → Fails old new →
      Survives may_leave is_clean (journal_of seen new) →
      IsKept seen may_leave is_usable is_clean new
  kept_broken old new kept f survives = record {
    head = subst IsHead (sym f.head) kept.head;
    key = f.batch_key ∙ kept.key ∙ ap (λ k. batch_key k old.head) (sym f.key)
        ∙ ap (λ h. batch_key new.key h) (sym f.head);
    zeros = f.zeros ∙ kept.zeros;
    usable = λ b. not_broken new.broken f.broken b;
    room = λ b. not_broken new.broken f.broken b;
    few = omega (arith, kept.few, f.size);
    counted = λ b. not_broken new.broken f.broken b;
    last = λ b. not_broken new.broken f.broken b;
    whole = λ b. not_broken new.broken f.broken b;
    survives = survives;
  }

  -- a sync has failed
  pub kept_unsynced : (old new : State D) → IsKept seen may_leave is_usable is_clean old → Fails old new →
      new.last ≡ old.last → new.end ≡ old.end →
      new.waits ≡ old.waits → seen new.disk ≡ seen old.disk → is_clean new.disk ≡ is_clean old.disk →
      ((c : List ℕ) → may_leave new.disk c → may_leave old.disk c) →
      IsKept seen may_leave is_usable is_clean new × (stored seen new ≡ stored seen old) × (waiting new ≡ waiting old)
  kept_unsynced old new kept f last end waits same clean left =
      let stays : stored seen new ≡ stored seen old =
      ap (λ k. batches_in k 0 0 (drop (length (head_of new.key new.head)) (take new.end (seen new.disk)))) f.batch_key
      ∙ ap (λ k. batches_in old.batch_key 0 0 (drop (length (head_of k new.head)) (take new.end (seen new.disk)))) f.key
      ∙ ap (λ h. batches_in old.batch_key 0 0 (drop (length (head_of old.key h)) (take new.end (seen new.disk)))) f.head
      ∙ ap (λ n. batches_in old.batch_key 0 0 (drop (length (head_of old.key old.head)) (take n (seen new.disk)))) end
      ∙ ap (λ (l : List ℕ). batches_in old.batch_key 0 0 (drop (length (head_of old.key old.head)) (take old.end l)))
      same in
      let also : waiting new ≡ waiting old =
      ap (λ b. if b then digits_in new.last ∷ [] else []) waits
      ∙ ap (λ (l : List ℕ). if old.waits then digits_in l ∷ [] else []) last in
      let survives : Survives may_leave is_clean (journal_of seen new) = λ h c may.
      let r = kept.survives (subst IsTrue clean h) c (left c may) in
      let found : reading old.key old.head c ≡ reading new.key new.head c =
      ap (λ k. reading k old.head c) (sym f.key) ∙ ap (λ d. reading new.key d c) (sym f.head) in
      subst (λ x. IsFront (length (stored seen new)) (stored seen new ++ waiting new) x) found
      (same_front (length (stored seen old)) (length (stored seen new)) (stored seen old ++ waiting old)
      (stored seen new ++ waiting new) (reading old.key old.head c)
      (ap length (sym stays))
      (ap (λ (l : List (List ℕ)). l ++ waiting old) (sym stays)
      ∙ ap (λ (l : List (List ℕ)). stored seen new ++ l) (sym also)) r) in
      (kept_broken old new kept f survives, stays, also)

  -- a batch was not placed, or not all of it
  pub kept_failed : (old new : State D) (batch : List ℕ) → old.waits ≡ false → old.broken ≡ false →
      IsKept seen may_leave is_usable is_clean old → Waits old new batch →
      Fails old new → is_clean new.disk ≡ is_clean old.disk → may_leave new.disk (seen new.disk) →
      ((front : List ℕ) → length front ≡ old.end →
      IsZeroed front (old.size - old.end) (seen old.disk) (may_leave old.disk) →
      (c : List ℕ) → may_leave new.disk c → IsFaded front (replicate (old.size - old.end) 0) c
      ⊎ IsPlaced front new.last c) →
      IsKept seen may_leave is_usable is_clean new × (IsTrue (is_clean new.disk) → stored seen new ≡ stored seen old)
  kept_failed old new batch off whole kept w f clean stay placed =
      let room : old.end + room_behind ≤ old.size =
      omega (arith, kept.room whole, ap length (nothing_waits seen may_leave is_usable is_clean old off).0) in
      let settled = λ (h : IsTrue (is_clean new.disk)). settled_of seen may_leave is_usable is_clean old off kept.key
      (kept.whole whole (subst IsTrue clean h)) in
      let same = λ (h : IsTrue (is_clean new.disk)).
      let t = settled h in
      ⊎_elim (λ p. waits_stored old new batch p.rest off kept.key w t p.is)
      (λ p. waits_stored old new batch p.faded.rest off kept.key w t p.faded.is)
      (placed (front_of old.key old.head (stored seen old)) t.end t.zeroed (seen new.disk) stay) in
      let survives : Survives may_leave is_clean (journal_of seen new) = λ h c may.
      let t = settled h in
      ⊎_elim (λ p. unplaced_survives old new batch c room kept.key w t (same h) p)
      (λ p. waits_survives old new batch p.count c kept.key w t (same h) p.room p.faded)
      (placed (front_of old.key old.head (stored seen old)) t.end t.zeroed c may) in
      (kept_broken old new kept f survives, same)

  -- the same, of bytes that are those of the last batch
  pub kept_unplaced : (old new : State D) (batch bytes : List ℕ) → bytes ≡ new.last → old.waits ≡ false →
      old.broken ≡ false →
      IsKept seen may_leave is_usable is_clean old → Waits old new batch → Fails old new →
      is_clean new.disk ≡ is_clean old.disk → may_leave new.disk (seen new.disk) →
      ((front : List ℕ) → length front ≡ old.end →
      IsZeroed front (old.size - old.end) (seen old.disk) (may_leave old.disk) →
      (c : List ℕ) → may_leave new.disk c → IsFaded front (replicate (old.size - old.end) 0) c
      ⊎ IsPlaced front bytes c) →
      IsKept seen may_leave is_usable is_clean new × (IsTrue (is_clean new.disk) → stored seen new ≡ stored seen old)
  kept_unplaced old new batch bytes is off whole kept w f clean stay =
      let P : List ℕ → Type 0 = λ b.
      ((front : List ℕ) → length front ≡ old.end →
      IsZeroed front (old.size - old.end) (seen old.disk) (may_leave old.disk) →
      (c : List ℕ) → may_leave new.disk c → IsFaded front (replicate (old.size - old.end) 0) c ⊎ IsPlaced front b c) →
      IsKept seen may_leave is_usable is_clean new × (IsTrue (is_clean new.disk) → stored seen new ≡ stored seen old) in
      subst P (sym is) (λ placed. kept_failed old new batch off whole kept w f clean stay placed)

  -- a buffer that is of no use yet
  pub kept_buffer : (s : State D) (bytes : List ℕ) (room : ℕ) → s.waits ≡ false → s.broken ≡ false →
      IsKept seen may_leave is_usable is_clean s →
      IsKept seen may_leave is_usable is_clean (record {
        disk = s.disk;
        beside = s.beside;
        key = s.key;
        head = s.head;
        batch_key = s.batch_key;
        zeros = s.zeros;
        last = bytes;
        end = s.end;
        size = s.size;
        count = s.count;
        waits = s.waits;
        broken = s.broken;
        room = room;
      })
  kept_buffer s bytes room off whole kept =
      kept_settled seen may_leave is_usable is_clean _ off kept.head kept.key kept.zeros (kept.usable whole)
      (omega (arith, kept.room whole, ap length (nothing_waits seen may_leave is_usable is_clean s off).0)) kept.few
      (kept.counted whole)
      (λ h.
      let t = settled_of seen may_leave is_usable is_clean s off kept.key (kept.whole whole h) in
      (stored seen s, record { good = t.good; count = t.count; end = t.end; zeroed = t.zeroed }))

  -- what waits, and what was stored before it
  pub waits_batches : (old new : State D) (batch : List ℕ) → old.waits ≡ false → Waits old new batch →
      stored seen new ≡ stored seen old →
      stored seen new ++ waiting new ≡ (stored seen old ++ waiting old) ++ batch ∷ []
  waits_batches old new batch off w same =
      ap (λ (l : List (List ℕ)). l ++ waiting new) same
      ∙ ap (λ (l : List (List ℕ)). stored seen old ++ l) (last_digits old new batch w)
      ∙ ap (λ (l : List (List ℕ)). l ++ batch ∷ [])
      (sym (ap (λ (l : List (List ℕ)). stored seen old ++ l) (nothing_waits seen may_leave is_usable is_clean old
      off).1 ∙ append-nil (stored seen old)))
