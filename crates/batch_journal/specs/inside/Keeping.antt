-- What holds of a journal's fields.
use Rattle.std.specs.Prelude.{◌≡◌, ◌+◌, ◌-◌, ◌<◌, ◌≤◌, ℕ, Bool, true, false, IsTrue, if◌then◌else◌}
use Rattle.std.specs.Prelude.{List, [], ◌∷◌, ◌++◌, length, take, drop, replicate}
use Rattle.std.specs.List.{list_all}
use Rattle.sqlite_disk.specs.Disk.{Only}
use Rattle.batch_journal.specs.Batches.{batch_of, batches_of, digits_in}
use Rattle.batch_journal.specs.Digits.{is_digit}
use Rattle.batch_journal.specs.Heads.{IsHead, head_of}
use Rattle.batch_journal.specs.Journals.{JournalValue, Survives}
use Rattle.batch_journal.specs.Readings.{batches_in, batch_key, room_behind}
use Rattle.batch_journal.specs.declared.head.Head.{Head}
use Rattle.batch_journal.specs.inside.Fading.{IsFaded}

-- A journal's fields: its file and the one beside it, the key and the head, the key of its batches, room_behind zeros,
-- the last batch as it stands in the file, where the batches that are synced end, how long the file is, how many are
-- synced, whether the last batch waits for a sync, and whether a call has failed.
pub record State (D : Type 0) : Type 0 where
  pub disk : D
  pub beside : D
  pub key : List ℕ
  pub head : Head
  pub batch_key : List ℕ
  pub zeros : List ℕ
  pub last : List ℕ
  pub end : ℕ
  pub size : ℕ
  pub count : ℕ
  pub waits : Bool
  pub broken : Bool
  pub room : ℕ

-- the batches that are synced: those at the front of what is seen
abbrev pub stored : {D : Type 0} → (D → List ℕ) → State D → List (List ℕ)
stored seen s = batches_in s.batch_key 0 0 (drop (length (head_of s.key s.head)) (take s.end (seen s.disk)))

-- the batch that waits for a sync
abbrev pub waiting : {D : Type 0} → State D → List (List ℕ)
waiting s = if s.waits then digits_in s.last ∷ [] else []

-- its bytes
abbrev pub waiting_bytes : {D : Type 0} → State D → List ℕ
waiting_bytes s = if s.waits then s.last else []

abbrev pub journal_of : {D : Type 0} → (D → List ℕ) → State D → JournalValue D
journal_of seen s = record {
  disk = s.disk;
  beside = s.beside;
  key = s.key;
  head = s.head;
  batches = stored seen s ++ waiting s;
  synced = length (stored seen s);
  broken = s.broken;
  room = s.room;
}

-- batches of digits, not too many in each
abbrev pub AreBatches : List (List ℕ) → Type 0
AreBatches [] = Unit {0}
AreBatches (batch ∷ batches) = (list_all is_digit batch ≡ true) × (length batch < 1728000) × AreBatches batches

-- the file is the head, the batches that are synced, the one that waits, and zeros
pub record IsWhole {D : Type 0} (seen : D → List ℕ) (may_leave : D → List ℕ → Type 0) (s : State D) : Type 0 where
  pub front : List ℕ
  pub front_is : front ≡ head_of s.key s.head ++ batches_of s.batch_key 0 (stored seen s)
  pub end : length front ≡ s.end
  pub count : s.count ≡ length (stored seen s)
  pub good : AreBatches (stored seen s)
  pub file : seen s.disk ≡ front ++ (waiting_bytes s ++ replicate (s.size - (s.end + length (waiting_bytes s))) 0)
  -- where no batch waits a crash leaves the file, and else of that batch each byte or a 0
  pub settled : s.waits ≡ false → Only (seen s.disk) (may_leave s.disk)
  pub crash : (c : List ℕ) → may_leave s.disk c →
      IsFaded front (waiting_bytes s ++ replicate (s.size - (s.end + length (waiting_bytes s))) 0) c

-- the last batch is one of digits
pub record IsLast (key last : List ℕ) (count : ℕ) : Type 0 where
  pub batch : List ℕ
  pub digits : list_all is_digit batch ≡ true
  pub few : length batch < 1728000
  pub is : last ≡ batch_of key count batch

-- the disk is asked no more once a call has failed; what is said of its bytes is said if it has not lied
pub record IsKept {D : Type 0} (seen : D → List ℕ) (may_leave : D → List ℕ → Type 0)
    (is_usable is_clean : D → Bool) (s : State D) : Type 0 where
  pub head : IsHead s.head
  pub key : s.batch_key ≡ batch_key s.key s.head
  pub zeros : s.zeros ≡ replicate room_behind 0
  pub usable : s.broken ≡ false → IsTrue (is_usable s.disk)
  pub room : s.broken ≡ false → s.end + length (waiting_bytes s) + room_behind ≤ s.size
  pub few : s.size ≤ 536870912
  pub counted : s.broken ≡ false → s.count ≤ s.end
  pub last : s.broken ≡ false → s.waits ≡ true → IsLast s.batch_key s.last s.count
  pub whole : s.broken ≡ false → IsTrue (is_clean s.disk) → IsWhole seen may_leave s
  pub survives : Survives may_leave is_clean (journal_of seen s)
