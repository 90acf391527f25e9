-- A journal over a disk, and what a crash leaves of it.
use Rattle.std.specs.Prelude.{◌≡◌, ◌⊎◌, ℕ, ◌≤◌, Bool, IsTrue, List, [], ◌∷◌, ◌++◌, length, take, Result, Ok, Err}
use Rattle.batch_journal.specs.Readings.{reading}
use Rattle.batch_journal.specs.declared.fault.JournalFault.{JournalFault}
use Rattle.batch_journal.specs.declared.fault.JournalFault.TheVariants.{NotAJournal}
use Rattle.batch_journal.specs.declared.head.Head.{Head}

-- A journal: its file and the one beside it, the key and the head under which it is read, its batches in order, how
-- many of them are synced, whether a call of the disk has failed, after which nothing more is written, and for how many
-- bytes of a batch there is memory.
pub record JournalValue (D : Type 0) : Type 0 where
  pub disk : D
  pub beside : D
  pub key : List ℕ
  pub head : Head
  pub batches : List (List ℕ)
  pub synced : ℕ
  pub broken : Bool
  pub room : ℕ

-- The old journal's batches and this one are the new one's, and no more of them are synced, unless the disk has lied.
pub record Records {D : Type 0} (is_clean : D → Bool) (old new : JournalValue D) (batch : List ℕ) : Type 0 where
  pub batches : IsTrue (is_clean old.disk) → new.batches ≡ old.batches ++ batch ∷ []
  pub synced : IsTrue (is_clean old.disk) → new.synced ≡ old.synced

-- it is the same journal, whatever its disk did
pub record IsSame {D : Type 0} (is_clean : D → Bool) (old new : JournalValue D) : Type 0 where
  pub key : new.key ≡ old.key
  pub head : new.head ≡ old.head
  pub clean : is_clean new.disk ≡ is_clean old.disk

-- Whatever a crash leaves now might have been left before, or stands for the same as this file.
abbrev pub LeavesTheSame : List ℕ → Head → List ℕ → (List ℕ → Type 0) → (List ℕ → Type 0) → Type 0
LeavesTheSame key head file old new = (c : List ℕ) → new c → old c ⊎ (reading key head c ≡ reading key head file)

-- Whatever a crash leaves now might have been left before, or stands for no batch.
abbrev pub LeavesNoBatch : List ℕ → Head → (List ℕ → Type 0) → (List ℕ → Type 0) → Type 0
LeavesNoBatch key head old new =
    (c : List ℕ) → new c → old c ⊎ ((reading key head c ≡ Ok []) ⊎ (reading key head c ≡ Err NotAJournal))

-- a prefix of the batches is read that has so many at least
pub record IsFront (least : ℕ) (batches : List (List ℕ)) (found : Result (List (List ℕ)) JournalFault) : Type 0 where
  pub count : ℕ
  pub enough : least ≤ count
  pub within : count ≤ length batches
  pub is : found ≡ Ok (take count batches)

-- What a crash at this moment leaves stands for a prefix of the batches that has all that are synced, unless the disk
-- has lied.
abbrev pub Survives : {D : Type 0} → (D → List ℕ → Type 0) → (D → Bool) → JournalValue D → Type 0
Survives may_leave is_clean j =
    IsTrue (is_clean j.disk) → (c : List ℕ) → may_leave j.disk c → IsFront j.synced j.batches (reading j.key j.head c)
