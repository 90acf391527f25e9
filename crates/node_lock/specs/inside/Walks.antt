-- What an audit does at one place of the history.
use Rattle.std.specs.Prelude.{◌≡◌, ℕ, ◌<◌, ◌≤◌, false, IsTrue, List, map, Option, Some}
use Rattle.std.specs.Prelude.{None, IsSome, Result, Ok, All, Contains, count_by, ⊤}
use Rattle.std.specs.List.Sorted.{IsNonDecreasingBy}
use Rattle.std.specs.Borrow.{Bor}
use Rattle.role_node.specs.Answers.{is_recorded}
use Rattle.role_node.specs.Nodes.{NodeValue, due_at}
use Rattle.role_node.specs.declared.event.Event.{Event}
use Rattle.role_node.specs.declared.event.Reply.{Reply}
use Rattle.role_node.specs.declared.faults.NodeFault.{NodeFault}
use Rattle.node_lock.specs.Audits.{IsEventOf, recorded_at}
use Rattle.node_lock.specs.Receipts.{outcome_due, outcome_from, is_recorded_outcome}
use Rattle.node_lock.specs.declared.audits.AuditFault.{AuditFault}
use Rattle.node_lock.specs.declared.audits.AuditFault.TheVariants.{Missing, Doubled, Differs, Memory}
use Rattle.node_lock.specs.declared.audits.EntryParts.{EntryParts}
use Rattle.node_lock.specs.declared.receipt.Outcome.{Outcome}
use Rattle.node_lock.specs.declared.receipt.Receipt.{Receipt}

-- the receipts behind the references
abbrev pub receipts_of : List (Bor Receipt) → List Receipt
receipts_of references = map (λ (r : Bor Receipt). r.now) references

-- the receipts for the places from this one on, in the order of their places
pub record IsRest (receipts : List Receipt) (place : ℕ) (rest : List Receipt) : Type 0 where
  pub ordered : IsNonDecreasingBy (λ (r : Receipt). r.place) rest
  pub low : All (λ (r : Receipt). place ≤ r.place) rest
  pub counts : (p : ℕ) → place ≤ p → recorded_at receipts p ≡ recorded_at rest p
  pub members : (r : Receipt) → Contains receipts r → place ≤ r.place → Contains rest r
  pub among : (r : Receipt) → Contains rest r → Contains receipts r

-- the event of an entry
abbrev pub event_in : Option EntryParts → Option Event
event_in None = None
event_in (Some entry) = Some entry.event

-- the entry's reply is due after the node's history, and its event is recorded
abbrev pub IsNext : NodeValue → Option EntryParts → Type 0
IsNext node None = ⊤
IsNext node (Some entry) = (due_at node entry.event ≡ Ok entry.reply) × IsTrue (is_recorded (Ok entry.reply))

-- the receipt is true at a place with this event, where the node is this
pub record IsTrueHere (node : NodeValue) (at : Option Event) (r : Receipt) : Type 0 where
  pub outcome : r.outcome ≡ outcome_due node r.call
  pub event : IsTrue (is_recorded_outcome r.outcome) → IsEventOf at r.call

-- the outcome is that of the due reply, whose event is not recorded
abbrev pub IsUnrecorded : Result Reply NodeFault → Outcome → Type 0
IsUnrecorded due outcome = (is_recorded due ≡ false) × (outcome ≡ outcome_from due)

-- how many of the receipts are of recorded events
abbrev pub recorded_in : List Receipt → ℕ
recorded_in receipts = count_by (λ (r : Receipt). is_recorded_outcome r.outcome) receipts

-- of the receipts at a place, one is of the recorded event, if there is one, and all are true
pub record AreRightHere (node : NodeValue) (at : Option Event) (here : List Receipt) : Type 0 where
  pub one : IsSome at → recorded_in here ≡ 1
  pub all : All (IsTrueHere node at) here

-- what is wrong there
abbrev pub IsFaultHere : NodeValue → Option Event → List Receipt → ℕ → AuditFault → Type 0
IsFaultHere node at here place (Missing p) = (p ≡ place) × IsSome at × (recorded_in here ≡ 0)
IsFaultHere node at here place (Doubled p) = (p ≡ place) × IsSome at × (1 < recorded_in here)
IsFaultHere node at here place (Differs p) =
    (p ≡ place) × (IsSome at → recorded_in here ≡ 1) × ¬ All (IsTrueHere node at) here
IsFaultHere node at here place Memory = ⊤
