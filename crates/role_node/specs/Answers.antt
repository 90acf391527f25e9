-- The answer that is due to an event after a history: the first refusal of its kind that holds, that it is idle, or
-- else its reply.
use Rattle.std.specs.Prelude.{◌≡◌, ℕ, ◌+◌, ◌==◌, Bool, true, false, not, ◌&&◌, nat_le, nat_lt, if◌then◌else◌, IsTrue}
use Rattle.std.specs.Prelude.{List, length, take, slice_get, Option, Some, None, option_map, Result, Ok, Err}
use Rattle.quorum_sizes.specs.Sizes.{Counts}
use Rattle.role_commands.specs.Rules.{role_of}
use Rattle.role_commands.specs.Tables.{Table}
use Rattle.role_commands.specs.declared.command.Command.{Command}
use Rattle.link_frames.specs.frames.Packets.{PacketValue}
use Rattle.link_frames.specs.declared.frames.kind.Kind.{Kind}
use Rattle.link_frames.specs.declared.frames.kind.Kind.TheVariants.{Send}
use Rattle.link_frames.specs.declared.frames.packet.Message.{Message}
use Rattle.bracha_instance.specs.declared.instance.Effect.{Effect}
use Rattle.bracha_instance.specs.declared.instance.Effect.TheVariants as effect
use Rattle.owner_streams.specs.Places.{place_count, window}
use Rattle.owner_streams.specs.Steps.{step_of, step_due, effect_due}
use Rattle.owner_streams.specs.declared.steps.StreamStep.{StreamStep}
use Rattle.owner_streams.specs.declared.steps.StreamFault.{StreamFault}
use Rattle.rbac_state.specs.Assignments.{owns}
use Rattle.role_sessions.specs.Sessions.{SessionState}
use Rattle.role_sessions.specs.Decisions.{Relations}
use Rattle.role_sessions.specs.Refusals.{open_due, activate_due, drop_due, close_due}
use Rattle.role_sessions.specs.declared.event.ClientEvent.{ClientEvent}
use Rattle.role_sessions.specs.declared.event.ClientEvent.TheVariants.{Open, Activate, DropRole, Close}
use Rattle.role_node.specs.Configs.{ConfigValue}
use Rattle.role_node.specs.Faults.{of_stream_fault, of_session_fault}
use Rattle.role_node.specs.Histories.{issued, packets}
use Rattle.role_node.specs.Access.{reach_at, relations_at, sessions_at}
use Rattle.role_node.specs.declared.event.Event.{Event}
use Rattle.role_node.specs.declared.event.Event.TheVariants.{Issue, Take, Client}
use Rattle.role_node.specs.declared.event.Reply.{Reply}
use Rattle.role_node.specs.declared.event.Reply.TheVariants as reply
use Rattle.role_node.specs.declared.faults.NodeFault.{NodeFault}
use Rattle.role_node.specs.declared.faults.NodeFault.TheVariants as fault

-- The first refusal of a command that is to be published: the role is not this node's; its stream has no more
-- places; it has issued as many commands beyond the reach of its own stream as the window has places.
abbrev pub issue_fault : Table → ℕ → List Event → Command → Option NodeFault
issue_fault roles me history command =
    if not (owns roles me (role_of command)) then Some fault.NotMine
    else (if nat_le place_count (length (issued history)) then Some fault.StreamFull
    else (if nat_le (reach_at roles.sizes history me + window) (length (issued history)) then Some fault.Busy
    else None))

-- the packet is for this node, and its sender and its owner are nodes
abbrev pub is_routed : Counts → ℕ → PacketValue → Bool
is_routed s me p = (p.to == me) && nat_lt p.from s.nodes && nat_lt p.owner s.nodes

abbrev pub of_effect_due : Result Effect StreamFault → Result Effect NodeFault
of_effect_due (Ok e) = Ok e
of_effect_due (Err f) = Err (of_stream_fault f)

-- the first refusal of a packet, or whether it counts
abbrev pub take_outlook : Table → ℕ → List Event → PacketValue → Result Effect NodeFault
take_outlook roles me history p =
    if is_routed roles.sizes me p then of_effect_due (effect_due (step_due roles.sizes (packets history) p))
    else Err fault.Misrouted

-- the first refusal of what a client does, under these relations and with these sessions
abbrev pub act_fault : Table → Relations → SessionState → ClientEvent → Option NodeFault
act_fault roles relations sessions (Open user) = option_map of_session_fault (open_due sessions)
act_fault roles relations sessions (Activate session user role) =
    option_map of_session_fault (activate_due roles relations sessions session user role)
act_fault roles relations sessions (DropRole session user role) =
    option_map fault.End (drop_due sessions session user role)
act_fault roles relations sessions (Close session user) = option_map fault.End (close_due sessions session user)

-- what is not refused counts
abbrev pub or_counted : Option NodeFault → Result Effect NodeFault
or_counted None = Ok effect.Counted
or_counted (Some f) = Err f

-- the first refusal of the event that holds, room in the history apart, or whether it counts
abbrev pub outlook_with_room : Table → ℕ → List Event → Event → Result Effect NodeFault
outlook_with_room roles me history (Issue command) = or_counted (issue_fault roles me history command)
outlook_with_room roles me history (Take p) = take_outlook roles me history p
outlook_with_room roles me history (Client act) =
    or_counted (act_fault roles (relations_at roles history) (sessions_at history) act)

-- where the history is full, what would count is refused
abbrev pub unless_full : Bool → Result Effect NodeFault → Result Effect NodeFault
unless_full full (Ok effect.Counted) = if full then Err fault.Full else Ok effect.Counted
unless_full full due = due

-- the first refusal of the event that holds, or whether it counts
abbrev pub outlook : ConfigValue → ℕ → List Event → Event → Result Effect NodeFault
outlook config me history event =
    unless_full (nat_le config.limit (length history)) (outlook_with_room config.roles me history event)

-- the message of a packet's instance, of this kind and for this command
abbrev pub said_at : PacketValue → Kind × Command → Message
said_at p said = record { kind = said.0; owner = p.owner; place = p.place; command = said.1 }

-- the reply to a packet that counts
abbrev pub counted_reply : PacketValue → StreamStep → Reply
counted_reply p step = reply.Counted (option_map (said_at p) step.broadcast) step.delivered step.from step.to

-- the reply to an event that counts
abbrev pub reply_to : Table → ℕ → List Event → Event → Reply
reply_to roles me history (Issue command) =
    reply.Issued (record { kind = Send; owner = me; place = length (issued history); command = command })
reply_to roles me history (Take p) = counted_reply p (step_of roles.sizes (packets history) p)
reply_to roles me history (Client (Open user)) = reply.Session ((sessions_at history).opened + 1)
reply_to roles me history (Client act) = reply.Done

-- the message that a reply has the node send to all
abbrev pub sent_by : Reply → Option Message
sent_by (reply.Issued message) = Some message
sent_by (reply.Counted send delivered from to) = send
sent_by r = None

-- a refusal has it send none
abbrev pub sent_by_answer : Result Reply NodeFault → Option Message
sent_by_answer (Ok r) = sent_by r
sent_by_answer (Err f) = None

abbrev pub answered : Result Effect NodeFault → Reply → Result Reply NodeFault
answered (Ok effect.Idle) r = Ok reply.Idle
answered (Ok effect.Counted) r = Ok r
answered (Err f) r = Err f

-- The answer that is due to the event, memory apart.
abbrev pub answer_due : ConfigValue → ℕ → List Event → Event → Result Reply NodeFault
answer_due config me history event = answered (outlook config me history event) (reply_to config.roles me history event)

-- an event is recorded where its answer is neither a refusal nor that it is idle
abbrev pub is_recorded : Result Reply NodeFault → Bool
is_recorded (Ok reply.Idle) = false
is_recorded (Ok r) = true
is_recorded (Err f) = false

-- A history is legal where the answer due to each event after those before it has it recorded.
abbrev pub IsLegal : ConfigValue → ℕ → List Event → Type 0
IsLegal config me history =
    (k : ℕ) (event : Event) → slice_get history k ≡ Some event
    → IsTrue (is_recorded (answer_due config me (take k history) event))

-- the answer is the one that is due; want of memory comes last, where the event would be recorded
abbrev pub IsAnswer : Result Reply NodeFault → Result Reply NodeFault → Type 0
IsAnswer due (Err fault.Memory) = IsTrue (is_recorded due)
IsAnswer due result = due ≡ result

-- an event that a node recorded, and its reply
pub record EntryValue : Type 0 where
  pub event : Event
  pub reply : Reply

abbrev pub event_of : EntryValue → Event
event_of entry = entry.event

-- each reply is the one that was due at its place
abbrev pub AreReplies : ConfigValue → ℕ → List Event → List EntryValue → Type 0
AreReplies config me history entries =
    (k : ℕ) (entry : EntryValue) → slice_get entries k ≡ Some entry
    → answer_due config me (take k history) entry.event ≡ Ok entry.reply
