-- Why a node is not restored from a journal.
use Rattle.std.specs.Prelude.{◌≡◌, ◌≢◌, ◌⊎◌, ⊤, ℕ, Bool, false, IsTrue, List, [], ◌++◌, length, Ok}
use Rattle.std.specs.List.{concat}
use Rattle.sqlite_disk.specs.declared.files.Files.{Files}
use Rattle.batch_journal.specs.Faults.{IsRefused}
use Rattle.batch_journal.specs.Readings.{reading}
use Rattle.batch_journal.specs.declared.fault.JournalFault.TheVariants as journal_fault
use Rattle.batch_journal.specs.declared.head.Head.{Head}
use Rattle.role_node.specs.Answers.{answer_due, is_recorded, IsLegal}
use Rattle.role_node.specs.Configs.{ConfigValue}
use Rattle.role_node.specs.declared.event.Event.{Event}
use Rattle.kept_node.specs.Events.{IsEventOf, digits_of_events, event_digits}
use Rattle.kept_node.specs.NodeHeads.{IsHeadOf}
use Rattle.kept_node.specs.declared.replaying.ReplayFault.{ReplayFault}
use Rattle.kept_node.specs.declared.replaying.ReplayFault.TheVariants as replay_fault
use Rattle.kept_node.specs.declared.fault.Unrestored.{Unrestored}
use Rattle.kept_node.specs.declared.fault.Unrestored.TheVariants.{Unopened, Illegal, Memory}

-- Digits begin with the events of a history of so many, and behind these stands no event that the node would record
-- then.
pub record IsIllegal (config : ConfigValue) (me place : ℕ) (digits : List ℕ) : Type 0 where
  pub events : List Event
  pub rest : List ℕ
  pub count : place ≡ length events
  pub digits_are : digits ≡ digits_of_events events ++ rest
  pub legal : IsLegal config me events
  pub more : rest ≢ []
  pub next : (event : Event) (behind : List ℕ) → IsEventOf config.roles.sizes me event →
      rest ≡ event_digits event ++ behind → is_recorded (answer_due config me events event) ≡ false

-- why digits are not replayed: by that, or by want of memory
abbrev pub IsReplayFault : ConfigValue → ℕ → List ℕ → ReplayFault → Type 0
IsReplayFault config me digits (replay_fault.Illegal place) = IsIllegal config me place digits
IsReplayFault config me digits replay_fault.Memory = ⊤

-- of a file, under this key
pub record IsIllegalFile (key : List ℕ) (config : ConfigValue) (me place : ℕ) (bytes : List ℕ) : Type 0 where
  pub head : Head
  pub batches : List (List ℕ)
  pub is_head : IsHeadOf config me head
  pub reads : reading key head bytes ≡ Ok batches
  pub illegal : IsIllegal config me place (concat batches)

-- What a crash leaves now might have been left before, or is read as the file was.
abbrev pub LeavesAsBefore : List ℕ → ConfigValue → ℕ → List ℕ → (List ℕ → Type 0) → (List ℕ → Type 0) → Type 0
LeavesAsBefore key config me file old new =
    (c : List ℕ) → new c → old c ⊎ ((head : Head) × IsHeadOf config me head × (reading key head c ≡ reading key head
    file))

-- the file that is handed back
abbrev pub file_of : {D : Type 0} → Unrestored D → D
file_of (Unopened fault files) = files.db
file_of (Illegal place journal) = journal.disk
file_of (Memory journal) = journal.disk

module _ {D : Type 0} (seen : D → List ℕ) (faults : D → ℕ) (is_clean is_mixing : D → Bool) where
  -- Why: the journal is not opened under the node's head; the file beside is empty, and the journal has an event that
  -- the node does not record; or memory is wanting; unless the files have lied.
  abbrev pub IsUnrestored : List ℕ → ConfigValue → ℕ → Files D → Unrestored D → Type 0
  IsUnrestored key config me old (Unopened journal_fault.Memory files) = ⊤
  IsUnrestored key config me old (Unopened fault files) =
      (head : Head) × IsHeadOf config me head × IsRefused seen faults is_clean is_mixing key head old files fault
  IsUnrestored key config me old (Illegal place journal) =
      (IsTrue (is_clean journal.beside) → seen old.log ≡ [])
      × (IsTrue (is_clean journal.disk) → IsIllegalFile key config me place (seen old.db))
  IsUnrestored key config me old (Memory journal) = ⊤
