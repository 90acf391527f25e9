-- What a hold reads of the node after its call, and what it does where the call may be absent.
use Rattle.std.specs.Prelude.{ℕ, Option, Some, None}
use Rattle.role_node.specs.Access.{reach_at, sent_at}
use Rattle.node_lock.specs.Holds.{Held, end_of, held_after, seat_after, seat_after_question, IsMisfit, IsStepFault}
use Rattle.node_lock.specs.Seats.{Sitting}
use Rattle.node_lock.specs.declared.locked.StepFault.{StepFault}
use Rattle.node_lock.specs.declared.receipt.Call.{Call}
use Rattle.node_lock.specs.declared.receipt.Call.TheVariants.{Step, Ask}
use Rattle.node_lock.specs.declared.view.View.{View}

-- how many nodes the cluster of the node behind the lock has
abbrev pub node_count : Held → ℕ
node_count h = h.node.config.roles.sizes.nodes

-- the length of the history, how far the owner's stream reaches after it, and what the node has sent to all at the
-- place of that stream
abbrev pub view_of : Held → ℕ → ℕ → View
view_of h owner place =
    record {
      at = end_of h;
      reach = reach_at h.node.config.roles.sizes h.node.history owner;
      again = sent_at h.node.config.roles.sizes h.node.me h.node.history owner place;
    }

-- only an event changes what is behind the lock
abbrev pub held_after_hold : Held → Sitting → Option Call → Held
held_after_hold h s (Some (Step event)) = held_after h s event
held_after_hold h s (Some (Ask question)) = h
held_after_hold h s None = h

-- without a call the seat has seen the history, as after a question
abbrev pub seat_after_hold : Held → Sitting → Option Call → Sitting
seat_after_hold h s (Some (Step event)) = seat_after h s event
seat_after_hold h s (Some (Ask question)) = seat_after_question h s
seat_after_hold h s None = seat_after_question h s

-- without a call no memory is wanted
abbrev pub IsHoldFault : Held → Sitting → Option Call → StepFault → Type 0
IsHoldFault h s (Some call) fault = IsStepFault h s call fault
IsHoldFault h s None fault = IsMisfit h s fault
