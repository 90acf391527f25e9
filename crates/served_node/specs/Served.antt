-- What a client hears of what a hold said, and what the node then sends.
use Rattle.std.specs.Prelude.{ℕ, nat_lt, Bool, true, false, Option, Some, None, option_and_then}
use Rattle.link_frames.specs.frames.Packets.{PacketValue, packet_due}
use Rattle.link_frames.specs.declared.frames.packet.Message.{Message}
use Rattle.role_sessions.specs.declared.faults.SessionFault.{SessionFault}
use Rattle.role_sessions.specs.declared.faults.SessionFault.TheVariants as session
use Rattle.role_node.specs.Answers.{sent_by}
use Rattle.role_node.specs.declared.event.Event.{Event}
use Rattle.role_node.specs.declared.event.Event.TheVariants as event
use Rattle.role_node.specs.declared.event.Reply.{Reply}
use Rattle.role_node.specs.declared.event.Reply.TheVariants as reply
use Rattle.role_node.specs.declared.faults.NodeFault.{NodeFault}
use Rattle.role_node.specs.declared.faults.NodeFault.TheVariants as fault
use Rattle.node_lock.specs.declared.receipt.Call.{Call}
use Rattle.node_lock.specs.declared.receipt.Call.TheVariants.{Step}
use Rattle.node_lock.specs.declared.receipt.Outcome.{Outcome}
use Rattle.node_lock.specs.declared.receipt.Outcome.TheVariants as outcome
use Rattle.node_lock.specs.declared.view.View.{View}
use Rattle.client_lines.specs.declared.answer.ClientAnswer.{ClientAnswer}
use Rattle.client_lines.specs.declared.answer.ClientAnswer.TheVariants.{Issued, Session, Done, Refused}
use Rattle.served_node.specs.Answers.{listed}
use Rattle.served_node.specs.declared.said.Said.{Said}

-- a reply, with the reach that was read after the call
abbrev pub reply_served : View → Reply → ClientAnswer
reply_served view reply.Idle = Done
reply_served view (reply.Issued message) = Issued message.place view.reach
reply_served view (reply.Counted send delivered from to) = Done
reply_served view (reply.Session id) = Session id
reply_served view reply.Done = Done

-- a refusal is heard, and want of memory is not
abbrev pub session_refusal : SessionFault → Option ClientAnswer
session_refusal session.Memory = None
session_refusal f = Some (Refused (fault.Session f))

abbrev pub refusal_served : NodeFault → Option ClientAnswer
refusal_served fault.Memory = None
refusal_served (fault.Session f) = session_refusal f
refusal_served f = Some (Refused f)

-- what a client hears; an answer has the length that the history had then
abbrev pub served : View → Outcome → Option ClientAnswer
served view (outcome.Reply r) = Some (reply_served view r)
served view (outcome.Answer answer) = Some (listed view.at answer)
served view (outcome.Refused f) = refusal_served f

-- the same of what a hold said
abbrev pub served_said : Said → Option ClientAnswer
served_said said = option_and_then (served said.view) said.outcome

-- the message that an outcome has the node send to all
abbrev pub sent_outcome : Outcome → Option Message
sent_outcome (outcome.Reply r) = sent_by r
sent_outcome (outcome.Answer answer) = None
sent_outcome (outcome.Refused f) = None

-- the same of what a hold said
abbrev pub sent_said : Said → Option Message
sent_said said = option_and_then sent_outcome said.outcome

-- a packet was counted
abbrev pub is_count : Reply → Bool
is_count (reply.Counted send delivered from to) = true
is_count r = false

abbrev pub has_count : Outcome → Bool
has_count (outcome.Reply r) = is_count r
has_count said = false

abbrev pub counted_in : Option Outcome → Bool
counted_in None = false
counted_in (Some o) = has_count o

-- the same of what a hold said
abbrev pub has_counted : Said → Bool
has_counted said = counted_in said.outcome

-- the owner's stream has grown by a packet, to which this was answered
abbrev pub has_grown : Reply → Bool
has_grown (reply.Counted send delivered from to) = nat_lt from to
has_grown r = false

abbrev pub grows : Outcome → Bool
grows (outcome.Reply r) = has_grown r
grows said = false

-- the packet of that message to the node of this name itself
abbrev pub own_packet : ℕ → Option Outcome → Option PacketValue
own_packet me said = option_and_then (packet_due me me) (option_and_then sent_outcome said)

-- the packet that a call has the node take
abbrev pub event_packet : Event → Option PacketValue
event_packet (event.Take packet) = Some packet
event_packet e = None

abbrev pub taken_by : Call → Option PacketValue
taken_by (Step e) = event_packet e
taken_by call = None
