-- What is due at a place of a legal history.
use Rattle.std.proofs.Common.{◌≡◌, ℕ, ◌+◌, ◌<◌, List, [], ◌∷◌, ◌++◌, length, take}
use Rattle.std.proofs.Common.{map, Some, Bool, true, false, refl, sym, ap, ◌∙◌, subst}
use Rattle.std.specs.Prelude.{slice_get, option_map, Option, Result, Ok, Err, IsTrue, ◌↔◌}
use Rattle.std.proofs.lemmas.List.{take_more}
use Rattle.std.proofs.lemmas.Option.{slice_get-map, slice_get_within, get_or_from_slice_get}
use Rattle.role_node.specs.Answers.{EntryValue, event_of, is_recorded}
use Rattle.role_node.specs.Nodes.{NodeValue, due_at, with_event, IsLegalNode, AreRepliesOf}
use Rattle.role_node.specs.declared.event.Event.{Event}
use Rattle.role_node.specs.declared.event.Reply.{Reply}
use Rattle.role_node.specs.declared.faults.NodeFault.{NodeFault}
use Rattle.node_lock.specs.Audits.{node_at, IsEventOf}
use Rattle.node_lock.specs.Receipts.{outcome_due, outcome_from, is_recorded_outcome}
use Rattle.node_lock.specs.inside.Walks.{IsNext, IsTrueHere, IsUnrecorded}
use Rattle.node_lock.specs.declared.audits.EntryParts.{EntryParts}
use Rattle.node_lock.specs.declared.receipt.Call.TheVariants.{Step}
use Rattle.node_lock.specs.declared.receipt.Outcome.TheVariants.{Reply as Replied}
use Rattle.node_lock.specs.declared.receipt.Receipt.{Receipt}

-- the entry at a place is the one that was due there
pub next_entry : (node : NodeValue) (entries : List EntryValue) (place : ℕ) (entry : EntryValue) → map event_of entries
    ≡ node.history →
    AreRepliesOf node entries → IsLegalNode node → slice_get entries place ≡ Some entry →
    (event : Event) (reply : Reply) → event ≡ entry.event → reply ≡ entry.reply →
    IsNext (node_at node place) (Some (record { event = event; reply = reply }))
next_entry node entries place entry same replies legal at event reply event_is reply_is =
    let of : slice_get node.history place ≡ Some entry.event =
    ap (λ es. slice_get es place) (sym same) ∙ slice_get-map event_of entries place ∙ ap (option_map event_of) at in
    let due = replies place entry at in
    let recorded : IsTrue (is_recorded (Ok entry.reply)) = ap is_recorded (sym due) ∙ legal place entry.event of in (
      ap (due_at (node_at node place)) event_is ∙ due ∙ ap Ok (sym reply_is),
      ap (λ (r : Reply). is_recorded (Ok r))
          reply_is ∙ recorded,
    )

-- the history as far as the next place
pub one_further : (node : NodeValue) (place : ℕ) (event : Event) → slice_get node.history place ≡ Some event →
    with_event (node_at node place) event ≡ node_at node (place + 1)
one_further node place event at =
    let inside : place < length node.history = slice_get_within node.history place event at in
    let more : take (place + 1) node.history ≡ take place node.history ++ event ∷ [] =
    take_more node.history place event inside
    ∙ ap (λ (e : Event). take place node.history ++ e ∷ []) (get_or_from_slice_get node.history place event event at) in
    ap (λ (h : List Event). let n : NodeValue = record { config = node.config; me = node.me; history = h } in n)
    (sym more)

-- a receipt of the entry's event is true where it has the entry's reply
pub of_entry : (node : NodeValue) (entry : EntryParts) (r : Receipt) (event : Event) (told : Bool) →
    r.call ≡ Step event → entry.event ≡ event → IsNext node (Some entry) →
    (IsTrue told ↔ (r.outcome ≡ Replied entry.reply)) → IsTrue told ↔ IsTrueHere node (Some entry.event) r
of_entry node entry r event told call same next says =
    let due : Replied entry.reply ≡ outcome_due node r.call =
    ap outcome_from (sym next.0) ∙ ap (λ (e : Event). outcome_from (due_at node e)) same
    ∙ ap (outcome_due node) (sym call) in
    let here : IsEventOf (Some entry.event) r.call = subst (IsEventOf (Some entry.event)) (sym call) (ap Some same) in (
      (λ y. record { outcome = says.0 y ∙ due; event = λ _. here }),
      (λ t. says.1 (t.outcome ∙ sym due)),
    )

-- the outcome of a due reply is recorded where the reply is
recorded_from : (due : Result Reply NodeFault) → is_recorded_outcome (outcome_from due) ≡ is_recorded due
recorded_from (Ok reply) = refl
recorded_from (Err f) = refl

not_true : (b : Bool) → (b ≡ true → ⊥) → b ≡ false
not_true true other = absurd (other refl)
not_true false other = refl

-- a receipt of another event is true where its outcome is due and the event is not recorded
pub of_another : (node : NodeValue) (at : Option Event) (r : Receipt) (event : Event) (told : Bool) →
    r.call ≡ Step event → (at ≡ Some event → ⊥) →
    (IsTrue told ↔ IsUnrecorded (due_at node event) r.outcome) → IsTrue told ↔ IsTrueHere node at r
of_another node at r event told call other says =
    let due : outcome_due node r.call ≡ outcome_from (due_at node event) = ap (outcome_due node) call in
    let recorded : r.outcome ≡ outcome_from (due_at node event) → is_recorded_outcome r.outcome
    ≡ is_recorded (due_at node event) = λ e. ap is_recorded_outcome e ∙ recorded_from (due_at node event) in (
      (λ y. record {
        outcome = (says.0 y).1 ∙ sym due;
        event = λ t. let f = recorded (says.0 y).1 in let no = (says.0 y).0 in absurd cc;
      }),
      (λ t.
          let outcome = t.outcome ∙ due in
          let none = not_true (is_recorded (due_at node event)) (λ e.
          other (subst (IsEventOf at) call (t.event (recorded outcome ∙ e)))) in
          says.1 (none, outcome)),
    )
