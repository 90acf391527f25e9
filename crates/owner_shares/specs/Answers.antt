-- What the shares answer to an event, before the node is asked; where they answer nothing, the node does.
use Rattle.std.specs.Prelude.{Bool, true, false, ◌&&◌, nat_le, nat_lt, if◌then◌else◌, length}
use Rattle.std.specs.Prelude.{Option, Some, None}
use Rattle.role_commands.specs.Rules.{role_of}
use Rattle.role_commands.specs.Tables.{owns}
use Rattle.role_sessions.specs.declared.event.ClientEvent.{ClientEvent}
use Rattle.role_sessions.specs.declared.event.ClientEvent.TheVariants.{Close}
use Rattle.role_node.specs.Answers.{is_recorded}
use Rattle.role_node.specs.Histories.{issued, client_events}
use Rattle.role_node.specs.Nodes.{NodeValue, due_at}
use Rattle.role_node.specs.declared.event.Event.{Event}
use Rattle.role_node.specs.declared.event.Event.TheVariants.{Issue, Take, Client}
use Rattle.role_node.specs.declared.faults.NodeFault.TheVariants as fault
use Rattle.owner_shares.specs.Shares.{SharesValue, share_in, acts_share}
use Rattle.owner_shares.specs.declared.answer.ShareAnswer.{ShareAnswer}
use Rattle.owner_shares.specs.declared.answer.ShareAnswer.TheVariants.{Lost, Refused}

-- the act closes a session
abbrev pub is_close : ClientEvent → Bool
is_close (Close session user) = true
is_close act = false

-- where clients have done their share of acts, the history is full for an act that the node would record
abbrev pub answer_to_act : NodeValue → Event → Option ShareAnswer
answer_to_act node event =
    if nat_le acts_share (length (client_events node.history)) && is_recorded (due_at node event)
    then Some (Refused fault.Full) else None

-- A packet at its owner's share or behind it is lost. A command of a role of the node's is refused as F2 where it has
-- published its share; of another's role the node says F1. An act that the node would record is refused as F4 where
-- clients have done their share of acts, unless it is a close.
abbrev pub answer_of_shares : SharesValue → NodeValue → Event → Option ShareAnswer
answer_of_shares shares node (Take p) = if nat_lt p.place (share_in shares p.owner) then None else Some Lost
answer_of_shares shares node (Issue command) =
    if owns node.config.roles node.me (role_of command)
    && nat_le (share_in shares node.me) (length (issued node.history))
    then Some (Refused fault.StreamFull) else None
answer_of_shares shares node (Client act) =
    if is_close act then None else answer_to_act node (Client act)
