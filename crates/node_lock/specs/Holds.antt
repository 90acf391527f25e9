-- What one call under the lock does to the node behind it and to the caller's seat.
use Rattle.std.specs.Prelude.{◌≡◌, ◌≢◌, ℕ, ◌+◌, ◌==◌, ◌<◌, ◌≤◌, if◌then◌else◌, List}
use Rattle.std.specs.Prelude.{[], ◌∷◌, ◌++◌, length, count_by, slice_index, refl}
use Rattle.std.specs.Coded.{Coded, code_by, coded×, coded_list, coded_ℕ}
use Rattle.role_node.specs.Answers.{is_recorded}
use Rattle.role_node.specs.Nodes.{NodeValue, node_code, due_at, with_event}
use Rattle.role_node.specs.declared.event.Event.{Event}
use Rattle.node_lock.specs.Receipts.{outcome_due, MayWantMemory}
use Rattle.node_lock.specs.Seats.{Sitting, most_seats}
use Rattle.node_lock.specs.declared.locked.StepFault.{StepFault}
use Rattle.node_lock.specs.declared.locked.StepFault.TheVariants.{Behind, Strange, Memory}
use Rattle.node_lock.specs.declared.receipt.Call.{Call}
use Rattle.node_lock.specs.declared.receipt.Receipt.{Receipt}

-- what is behind the lock: the node, and beside each event of its history the number of the seat that recorded it
pub record Held : Type 0 where
  pub node : NodeValue
  pub seats : List ℕ

-- it is stored as its parts
abbrev pub held_code : Coded Held
held_code =
    code_by (NodeValue × List ℕ) (coded× node_code (coded_list coded_ℕ))
    (λ h. (h.node, h.seats)) (λ p. record { node = p.0; seats = p.1 }) (λ _. refl)

-- the length of the history
abbrev pub end_of : Held → ℕ
end_of h = length h.node.history

-- how many events the seat with this number recorded
abbrev pub count_of : Held → ℕ → ℕ
count_of h number = count_by (λ n. n == number) h.seats

-- the history is not shorter than the seat has seen, and has as many events of the seat as it recorded
pub record Fits (h : Held) (s : Sitting) : Type 0 where
  pub seen : s.seen ≤ end_of h
  pub count : count_of h s.number ≡ s.count

-- the receipt of a call
abbrev pub receipt_of : Held → Sitting → Call → Receipt
receipt_of h s call =
    record { seat = s.number; place = end_of h; call = call; outcome = outcome_due h.node call }

-- an event that is recorded is put at the end of the history, with the seat's number beside it
abbrev pub held_after : Held → Sitting → Event → Held
held_after h s event =
    if is_recorded (due_at h.node event)
    then record { node = with_event h.node event; seats = h.seats ++ s.number ∷ [] }
    else h

-- the seat counts what it recorded, and has seen the whole history after the call
abbrev pub seat_after : Held → Sitting → Event → Sitting
seat_after h s event =
    if is_recorded (due_at h.node event) then record { number = s.number; count = s.count + 1; seen = end_of h + 1 }
    else record { number = s.number; count = s.count; seen = end_of h }

-- after a question it has seen the history
abbrev pub seat_after_question : Held → Sitting → Sitting
seat_after_question h s = record { number = s.number; count = s.count; seen = end_of h }

-- why a seat does not fit: the history is shorter than it has seen, or its events there are not as many as it recorded
abbrev pub IsMisfit : Held → Sitting → StepFault → Type 0
IsMisfit h s (Behind seen found) = (seen ≡ s.seen) × (found ≡ end_of h) × (end_of h < s.seen)
IsMisfit h s (Strange recorded found) =
    (s.seen ≤ end_of h) × (recorded ≡ s.count) × (found ≡ count_of h s.number) × (count_of h s.number ≢ s.count)
IsMisfit h s Memory = ⊥

-- the fault of a call: the seat does not fit, and last memory is wanting
abbrev pub IsStepFault : Held → Sitting → Call → StepFault → Type 0
IsStepFault h s call (Behind seen found) = IsMisfit h s (Behind seen found)
IsStepFault h s call (Strange recorded found) = IsMisfit h s (Strange recorded found)
IsStepFault h s call Memory = Fits h s × MayWantMemory h.node call

-- What holds of what is behind the lock: each event has its seat's number beside it; the counts are those of the
-- numbers; the ledger's total is the length of the history; it has one part for each seat, of which there is one.
pub record IsKept (history : ℕ) (by counts : List ℕ) (total seats parts : ℕ) : Type 0 where
  pub beside : length by ≡ history
  pub counted : (number : ℕ) → number < most_seats → slice_index counts number ≡ count_by (λ n. n == number) by
  pub sum : history ≡ total
  pub each : seats ≡ parts
  pub some : 0 < seats
