-- Why a node's journal is not made, and why a node is not restored from one, nor its journal looked at.
use Rattle.std.specs.Prelude.{⊤, ℕ, Bool, IsTrue, List}
use Rattle.sqlite_disk.specs.declared.files.Files.{Files}
use Rattle.batch_journal.specs.Faults.{IsAlone, IsNotBegun, IsRefused}
use Rattle.batch_journal.specs.declared.fault.JournalFault.TheVariants.{Memory}
use Rattle.batch_journal.specs.declared.head.Head.{Head}
use Rattle.role_node.specs.Configs.{ConfigValue}
use Rattle.kept_node.specs.NodeHeads.{IsHeadOf}
use Rattle.kept_node.specs.Restoring.{IsIllegalFile}
use Rattle.kept_node.specs.declared.fault.Unrestored.{Unrestored}
use Rattle.kept_node.specs.declared.fault.Unrestored.TheVariants as unrestored
use Rattle.node_journal.specs.declared.fault.KeptFault.{KeptFault}
use Rattle.node_journal.specs.declared.fault.KeptFault.TheVariants.{Absent, InUse, Illegal, Unopened, Journal}

-- why a node was not restored, without what was handed back
abbrev pub fault_in : {D : Type 0} → Unrestored D → KeptFault
fault_in (unrestored.Unopened fault files) = Journal fault
fault_in (unrestored.Illegal place journal) = Illegal
fault_in (unrestored.Memory journal) = Journal Memory

-- files are there that are not opened: another process has them, they can't be opened, or memory is wanting
abbrev pub IsNotOpened : KeptFault → Type 0
IsNotOpened InUse = ⊤
IsNotOpened Unopened = ⊤
IsNotOpened (Journal Memory) = ⊤
IsNotOpened fault = ⊥

-- files are not there, or not opened
abbrev pub IsNotThere : KeptFault → Type 0
IsNotThere Absent = ⊤
IsNotThere fault = IsNotOpened fault

-- `new` is what the calls of the disk have made of the files
module _ {D : Type 0} (seen : D → List ℕ) (faults : D → ℕ) (is_clean is_mixing : D → Bool) where
  -- as `Journal::begin`
  abbrev pub IsNotMade : Files D → KeptFault → Type 0
  IsNotMade old (Journal Memory) = ⊤
  IsNotMade old (Journal fault) = (new : Files D) × IsNotBegun seen faults is_clean is_mixing old new fault
  IsNotMade old fault = ⊥

  -- the journal is not opened under the node's head; the file beside is empty, and it has an event that the node does not
  -- record; memory is wanting
  abbrev pub IsNotRestored : List ℕ → ConfigValue → ℕ → Files D → KeptFault → Type 0
  IsNotRestored key config me old (Journal Memory) = ⊤
  IsNotRestored key config me old (Journal fault) =
      (new : Files D) × (head : Head) × IsHeadOf config me head
      × IsRefused seen faults is_clean is_mixing key head old new fault
  IsNotRestored key config me old Illegal =
      (new : Files D) × (place : ℕ) × IsAlone seen faults is_clean is_mixing old new
      × (IsTrue (is_clean new.db) → IsIllegalFile key config me place (seen old.db))
  IsNotRestored key config me old fault = ⊥
