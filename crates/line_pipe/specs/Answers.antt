-- What a node answers to a client's request, and what the request makes of it.
use Rattle.std.specs.Prelude.{ℕ, zero, suc, ◌+◌, length, Option, Some, None}
use Rattle.std.specs.Prelude.{is_some, if◌then◌else◌, Result, Ok, Err}
use Rattle.std.specs.Option.{option_map_or}
use Rattle.link_frames.specs.frames.Packets.{PacketValue, packet_due}
use Rattle.link_frames.specs.declared.frames.packet.Message.{Message}
use Rattle.role_commands.specs.declared.command.Command.{Command}
use Rattle.role_sessions.specs.declared.faults.SessionFault.TheVariants as session
use Rattle.role_node.specs.Access.{reach_at, sessions_at, sent_at}
use Rattle.role_node.specs.Answers.{sent_by_answer}
use Rattle.role_node.specs.Listed.{answer_after}
use Rattle.role_node.specs.Nodes.{NodeValue, due_at, after_reply}
use Rattle.role_node.specs.Questions.{ask_due}
use Rattle.role_node.specs.declared.event.Event.{Event}
use Rattle.role_node.specs.declared.event.Event.TheVariants as event
use Rattle.role_node.specs.declared.event.NodeAgain.{NodeAgain}
use Rattle.role_node.specs.declared.event.Reply.{Reply}
use Rattle.role_node.specs.declared.event.Reply.TheVariants as reply
use Rattle.role_node.specs.declared.faults.NodeFault.{NodeFault}
use Rattle.role_node.specs.declared.faults.NodeFault.TheVariants as fault
use Rattle.role_node.specs.declared.question.Answer.{Answer}
use Rattle.role_node.specs.declared.question.Answer.TheVariants as answer
use Rattle.role_node.specs.declared.question.Question.{Question}
use Rattle.client_lines.specs.declared.answer.ClientAnswer.{ClientAnswer}
use Rattle.client_lines.specs.declared.answer.ClientAnswer.TheVariants.{Issued, Session, Done, Verdict, Users}
use Rattle.client_lines.specs.declared.answer.ClientAnswer.TheVariants.{Roles, Permissions, Operations, Reach}
use Rattle.client_lines.specs.declared.answer.ClientAnswer.TheVariants.{Again, Stopped, Refused}
use Rattle.client_lines.specs.declared.request.Request.{Request}
use Rattle.served_node.specs.Answers.{listed, sent_count}
use Rattle.client_lines.specs.declared.request.Request.TheVariants as request

-- the node after it gave this answer to the event
abbrev pub after_answer : NodeValue → Event → Result Reply NodeFault → NodeValue
after_answer node e (Ok r) = after_reply node e r
after_answer node e (Err f) = node

-- the node after the event
unfoldable pub after_event : NodeValue → Event → NodeValue
after_event node e = after_answer node e (due_at node e)

-- ---- the node's own packets

-- the packet of a message of a node to itself
abbrev pub own_packet : NodeValue → Message → Option PacketValue
own_packet node message = packet_due node.me node.me message

-- the node after it took the packet; if it is refused it is lost
abbrev pub after_own : NodeValue → Option PacketValue → NodeValue
after_own node None = node
after_own node (Some p) = after_event node (event.Take p)

-- what taking it has the node send
abbrev pub sent_own : NodeValue → Option PacketValue → Option Message
sent_own node None = None
sent_own node (Some p) = sent_by_answer (due_at node (event.Take p))

-- The node after so many of its own packets were taken, and the message that then waits. With one node a message is one
-- packet, and a packet causes one message at most, so no more than one waits.
unfoldable pub take_own : ℕ → NodeValue → Option Message → NodeValue × Option Message
take_own zero node waiting = (node, waiting)
take_own (suc k) node None = (node, None)
take_own (suc k) node (Some message) =
    take_own k (after_own node (own_packet node message)) (sent_own node (own_packet node message))

-- The node after it took its own packets until none is left: its SEND, the ECHO that this causes, and the READY that
-- that causes. `specs/Laws.antt` says that none is left then.
unfoldable pub settled : NodeValue → Option Message → NodeValue
settled node waiting = (take_own 3 node waiting).0

-- The node after the event and its own packets. Only a command that is published sends one.
unfoldable pub after_taken : NodeValue → Event → NodeValue
after_taken node e = settled (after_event node e) (sent_by_answer (due_at node e))

-- ---- requests

-- the node after the request
unfoldable pub after_request : NodeValue → Request → NodeValue
after_request node (request.Issue command) = after_taken node (event.Issue command)
after_request node (request.Client act) = after_taken node (event.Client act)
after_request node (request.Ask question) = node
after_request node (request.Reach owner) = node
after_request node (request.Again owner place) = node
after_request node request.Stop = node

-- a reply as a client hears it, where the node is then this one
abbrev pub replied : NodeValue → Result Reply NodeFault → ClientAnswer
replied node (Ok reply.Idle) = Done
replied node (Ok (reply.Issued message)) = Issued message.place (reach_at node.config.roles.sizes node.history node.me)
replied node (Ok (reply.Counted send delivered from to)) = Done
replied node (Ok (reply.Session id)) = Session id
replied node (Ok reply.Done) = Done
replied node (Err f) = Refused f

-- the answer to a question; only a session that is to be listed may not be open
unfoldable pub asked : NodeValue → Question → ClientAnswer
asked node question =
    option_map_or (λ f. Refused (fault.Session session.NoSession)) (ask_due (sessions_at node.history) question)
    (listed (length node.history) (answer_after node.config.roles node.history question))

-- the answer that is due to the request: by the history so far, and to a command that is published by the history after
-- the node took its own packets
unfoldable pub answer_to : NodeValue → Request → ClientAnswer
answer_to node (request.Issue command) =
    replied (after_taken node (event.Issue command)) (due_at node (event.Issue command))
answer_to node (request.Client act) = replied (after_taken node (event.Client act)) (due_at node (event.Client act))
answer_to node (request.Ask question) = asked node question
answer_to node (request.Reach owner) = Reach (reach_at node.config.roles.sizes node.history owner)
answer_to node (request.Again owner place) =
    Again (sent_count (sent_at node.config.roles.sizes node.me node.history owner place))
answer_to node request.Stop = Stopped
