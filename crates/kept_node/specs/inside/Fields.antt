-- What holds of the fields of a kept node. Serves the code, and no public contract.
use Rattle.std.specs.Prelude.{◌≡◌, ℕ, ◌+◌, ◌-◌, ◌*◌, ◌≤◌, Bool, false, IsTrue, List, [], ◌∷◌, ◌++◌, length, All}
use Rattle.std.specs.Prelude.{Option, Some, None}
use Rattle.std.specs.List.{concat}
use Rattle.quorum_sizes.specs.Sizes.{AreSizes}
use Rattle.batch_journal.specs.Digits.{AreDigits}
use Rattle.batch_journal.specs.Journals as journals
use Rattle.batch_journal.specs.Journals.{JournalValue}
use Rattle.role_node.specs.declared.event.Event.{Event}
use Rattle.node_lock.specs.Holds.{Held, end_of}
use Rattle.node_lock.specs.declared.receipt.Call.{Call}
use Rattle.node_lock.specs.declared.receipt.Call.TheVariants.{Step, Ask}
use Rattle.kept_node.specs.Events.{IsEventOf, digits_of_events}
use Rattle.kept_node.specs.NodeHeads.{IsHeadOf}
use Rattle.kept_node.specs.Keeping.{most_waiting}

-- the event that a call applies
abbrev pub event_in : Option Call → Option Event
event_in (Some (Step event)) = Some event
event_in (Some (Ask question)) = None
event_in None = None

-- The history in three parts: those events that are synced, those of a batch that is written and not synced, if there
-- is one, and those whose digits wait to be written.
pub record IsWritten {D : Type 0} (j : JournalValue D) (waiting : List ℕ) (history : List Event) (synced : ℕ)
    : Type 0 where
  pub settled : List (List ℕ)
  pub last : List (List ℕ)
  pub first : List Event
  pub second : List Event
  pub third : List Event
  pub batches : j.batches ≡ settled ++ last
  pub count : j.synced ≡ length settled
  pub one : length last ≤ 1
  pub first_digits : concat settled ≡ digits_of_events first
  pub second_digits : concat last ≡ digits_of_events second
  pub third_digits : waiting ≡ digits_of_events third
  pub history_is : history ≡ first ++ (second ++ third)
  pub synced_is : synced ≡ length first

pub record IsKept {D : Type 0} (may_leave : D → List ℕ → Type 0) (is_clean : D → Bool) (held : Held)
    (j : JournalValue D) (waiting : List ℕ) (capacity recorded synced : ℕ) : Type 0 where
  pub recorded_is : recorded ≡ end_of held
  pub within : synced ≤ recorded
  pub few : recorded ≤ synced + most_waiting
  pub sizes : AreSizes held.node.config.roles.sizes
  pub each : All (IsEventOf held.node.config.roles.sizes held.node.me) held.node.history
  pub head : IsHeadOf held.node.config held.node.me j.head
  pub room : 19497 ≤ j.room
  pub capacity_is : 19456 ≤ capacity
  pub short : length waiting ≤ 19 * (recorded - synced)
  pub digits : AreDigits waiting
  pub settled : j.broken ≡ false → j.synced ≡ length j.batches
  pub survives : journals.Survives may_leave is_clean j
  pub written : IsTrue (is_clean j.disk) → IsWritten j waiting held.node.history synced

-- The old journal's batches and this one are the new one's, and all are synced, unless the disk has lied.
pub record IsCommitted {D : Type 0} (is_clean : D → Bool) (old new : JournalValue D) (batch : List ℕ) : Type 0 where
  pub batches : IsTrue (is_clean old.disk) → new.batches ≡ old.batches ++ batch ∷ []
  pub synced : new.synced ≡ length new.batches
  pub whole : new.broken ≡ false
