-- Which receipts are true of a node's history, and what an audit of a list of receipts finds.
use Rattle.std.specs.Prelude.{◌≡◌, ℕ, ◌==◌, ◌<◌, ◌≤◌, ◌&&◌, ⊤, IsTrue, List}
use Rattle.std.specs.Prelude.{length, take, slice_get, Option, Some, All, count_by}
use Rattle.role_node.specs.Nodes.{NodeValue}
use Rattle.role_node.specs.declared.event.Event.{Event}
use Rattle.node_lock.specs.Receipts.{outcome_due, is_recorded_outcome}
use Rattle.node_lock.specs.declared.audits.AuditFault.{AuditFault}
use Rattle.node_lock.specs.declared.audits.AuditFault.TheVariants.{Missing, Doubled, Differs, Memory}
use Rattle.node_lock.specs.declared.receipt.Call.{Call}
use Rattle.node_lock.specs.declared.receipt.Call.TheVariants.{Step, Ask}
use Rattle.node_lock.specs.declared.receipt.Receipt.{Receipt}

-- the node as it was when its history had so many events
abbrev pub node_at : NodeValue → ℕ → NodeValue
node_at node place = record { config = node.config; me = node.me; history = take place node.history }

-- the event is the call's
abbrev pub IsEventOf : Option Event → Call → Type 0
IsEventOf at (Step event) = at ≡ Some event
IsEventOf at (Ask question) = ⊥

-- A receipt is true where its place is within the history, its outcome is the one that was due there, and, if it is of
-- an event that was recorded, that event is at its place.
pub record IsTrueOf (node : NodeValue) (r : Receipt) : Type 0 where
  pub within : r.place ≤ length node.history
  pub outcome : r.outcome ≡ outcome_due (node_at node r.place) r.call
  pub event : IsTrue (is_recorded_outcome r.outcome) → IsEventOf (slice_get node.history r.place) r.call

-- how many receipts of recorded events there are for a place
abbrev pub recorded_at : List Receipt → ℕ → ℕ
recorded_at receipts place = count_by (λ (r : Receipt). (r.place == place) && is_recorded_outcome r.outcome) receipts

-- the receipts are true, and each place of the history has exactly one of a recorded event
pub record AreTrue (node : NodeValue) (receipts : List Receipt) : Type 0 where
  pub all : All (IsTrueOf node) receipts
  pub each : (place : ℕ) → place < length node.history → recorded_at receipts place ≡ 1

-- the receipts for this place are true
abbrev pub AreTrueAt : NodeValue → List Receipt → ℕ → Type 0
AreTrueAt node receipts place = All (λ (r : Receipt). r.place ≡ place → IsTrueOf node r) receipts

-- nothing is wrong at this place
pub record IsRightAt (node : NodeValue) (receipts : List Receipt) (place : ℕ) : Type 0 where
  pub one : place < length node.history → recorded_at receipts place ≡ 1
  pub all : AreTrueAt node receipts place

-- nothing is wrong before it
abbrev pub AreRightBefore : NodeValue → List Receipt → ℕ → Type 0
AreRightBefore node receipts place = (before : ℕ) → before < place → IsRightAt node receipts before

-- The fault is at the least wrong place: no recorded event has a receipt there, then more than one has, then a receipt
-- is not true.
abbrev pub IsAuditFault : NodeValue → List Receipt → AuditFault → Type 0
IsAuditFault node receipts (Missing place) =
    AreRightBefore node receipts place × (place < length node.history) × (recorded_at receipts place ≡ 0)
IsAuditFault node receipts (Doubled place) =
    AreRightBefore node receipts place × (place < length node.history) × (1 < recorded_at receipts place)
IsAuditFault node receipts (Differs place) =
    AreRightBefore node receipts place × (place < length node.history → recorded_at receipts place ≡ 1)
    × ¬ AreTrueAt node receipts place
IsAuditFault node receipts Memory = ⊤
