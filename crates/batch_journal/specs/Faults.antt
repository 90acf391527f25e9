-- Why a call is refused.
use Rattle.std.specs.Prelude.{◌≡◌, ◌≢◌, ◌⊎◌, ◌<◌, ◌≤◌, ℕ, Bool, false, IsTrue, List, [], length, replicate, Err}
use Rattle.sqlite_disk.specs.Disk.{MoreFaults}
use Rattle.sqlite_disk.specs.declared.files.Files.{Files}
use Rattle.batch_journal.specs.Readings.{reading}
use Rattle.batch_journal.specs.declared.fault.JournalFault.{JournalFault}
use Rattle.batch_journal.specs.declared.fault.JournalFault.TheVariants.{NotBlank, Unopened, SecondFile, Device, Memory}
use Rattle.batch_journal.specs.declared.head.Head.{Head}

-- a call of the disk has failed, or a crash of it may leave more than each byte of a write old or new
abbrev pub Failed : ℕ → ℕ → Bool → Type 0
Failed old new is_mixing = MoreFaults old new ⊎ (is_mixing ≡ false)

-- a fault that bytes may have, or want of memory
abbrev pub IsOfBytes : JournalFault → Type 0
IsOfBytes Device = ⊥
IsOfBytes SecondFile = ⊥
IsOfBytes Unopened = ⊥
IsOfBytes other = Unit {0}

-- all bytes are 0, if there are any
abbrev pub IsBlank : List ℕ → Type 0
IsBlank bytes = bytes ≡ replicate (length bytes) 0

module _ {D : Type 0} (seen : D → List ℕ) (faults : D → ℕ) (is_clean is_mixing : D → Bool) where
  -- the file beside is empty, unless it has lied
  abbrev pub IsAlone : Files D → Files D → Type 0
  IsAlone old new = IsTrue (is_clean new.log) → seen old.log ≡ []

  -- the file has 512 MiB at most, unless it has lied
  abbrev pub IsShort : Files D → Files D → Type 0
  IsShort old new = IsTrue (is_clean new.db) → length (seen old.db) ≤ 536870912

  -- a call of the file beside has failed, or that one is empty and a call of the file has failed
  abbrev pub HasFailed : Files D → Files D → Type 0
  HasFailed old new =
      MoreFaults (faults old.log) (faults new.log)
      ⊎ (IsAlone old new × Failed (faults old.db) (faults new.db) (is_mixing new.db))

  -- Why files are not opened, unless they have lied, the first that holds: the disk, the file beside it, a length of
  -- over 512 MiB, want of memory, or what the bytes stand for.
  abbrev pub IsRefused : List ℕ → Head → Files D → Files D → JournalFault → Type 0
  IsRefused key head old new Device = HasFailed old new
  IsRefused key head old new SecondFile = IsTrue (is_clean new.log) → seen old.log ≢ []
  IsRefused key head old new Unopened =
      IsAlone old new × (IsTrue (is_clean new.db) → 536870912 < length (seen old.db))
  IsRefused key head old new Memory = IsAlone old new × IsShort old new
  IsRefused key head old new other =
      IsAlone old new × IsShort old new × (IsTrue (is_clean new.db) → reading key head (seen old.db) ≡ Err other)

  -- why a journal is not begun, the first that holds: by the same, and last where the file is not blank
  abbrev pub IsNotBegun : Files D → Files D → JournalFault → Type 0
  IsNotBegun old new Device = HasFailed old new
  IsNotBegun old new SecondFile = IsTrue (is_clean new.log) → seen old.log ≢ []
  IsNotBegun old new Unopened =
      IsAlone old new × (IsTrue (is_clean new.db) → 536870912 < length (seen old.db))
  IsNotBegun old new Memory = IsAlone old new × IsShort old new
  IsNotBegun old new NotBlank =
      IsAlone old new × IsShort old new × (IsTrue (is_clean new.db) → ¬ IsBlank (seen old.db))
  IsNotBegun old new other = ⊥
