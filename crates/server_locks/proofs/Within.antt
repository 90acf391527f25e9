-- A node within its shares stays so by each call to which these have no answer.
use Rattle.std.proofs.Common.{◌≡◌, Bool, true, false, Option, Some, None, refl, sym, subst, ◌++◌, ◌∷◌, []}
use Rattle.std.specs.Prelude.{option_map, if◌then◌else◌, IsSome}
use Rattle.node_lock.specs.Holds.{Held, held_after}
use Rattle.node_lock.specs.Seats.{Sitting}
use Rattle.owner_shares.specs.Answers.{answer_of_shares}
use Rattle.owner_shares.specs.Shares.{SharesValue, shares_of}
use Rattle.owner_shares.specs.declared.answer.ShareAnswer.{ShareAnswer}
use Rattle.owner_shares.proofs.Exported.{shares_are_kept}
use Rattle.role_node.specs.Answers.{is_recorded}
use Rattle.role_node.specs.Nodes.{due_at, with_event, IsLegalNode}
use Rattle.role_node.specs.declared.event.Event.{Event}
use Rattle.server_locks.specs.HoldRules.{no_hold_by, answer_due, IsWithin}

no_answer : (o : Option ShareAnswer) → option_map no_hold_by o ≡ None → o ≡ None
no_answer None e = refl
no_answer (Some answer) e = absurd cc

-- an event that is recorded, or isn't
by_event : (shares : Option SharesValue) (h : Held) (s : Sitting) (event : Event) (recorded : Bool) →
    is_recorded (due_at h.node event) ≡ recorded → IsLegalNode h.node →
    answer_of_shares (shares_of h.node.config.roles) h.node event ≡ None → IsWithin shares h.node →
    IsWithin shares
    (if recorded then record { node = with_event h.node event; seats = h.seats ++ s.number ∷ [] } else h).node
by_event shares h s event true is legal none within = record {
  are_of = within.are_of;
  history =
      (shares_are_kept h.node.config h.node.me).goes_on h.node.history event legal within.history none is;
}
by_event shares h s event false is legal none within = within

pub within_after : (shares : Option SharesValue) (h : Held) (s : Sitting) (event : Event) →
    (IsSome shares → IsLegalNode h.node) → answer_due shares h.node event ≡ None → IsWithin shares h.node →
    IsWithin shares (held_after h s event).node
within_after shares h s event legal none within =
    let some : IsSome shares = subst (λ (x : Option SharesValue). IsSome x) (sym within.are_of) refl in
    let answer : answer_due (Some (shares_of h.node.config.roles)) h.node event ≡ None =
    subst (λ (x : Option SharesValue). answer_due x h.node event ≡ None) within.are_of none in
    by_event shares h s event (is_recorded (due_at h.node event)) refl (legal some) (no_answer _ answer) within
