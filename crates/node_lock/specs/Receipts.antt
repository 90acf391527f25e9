-- The outcome that is due to a call at a node, and what a receipt of it says.
use Rattle.std.specs.Prelude.{◌≡◌, Bool, false, IsTrue, Option, Some, None, Result, Ok, Err}
use Rattle.role_sessions.specs.declared.faults.SessionFault.TheVariants as session
use Rattle.role_node.specs.Access.{sessions_at}
use Rattle.role_node.specs.Answers.{is_recorded}
use Rattle.role_node.specs.Listed.{answer_after}
use Rattle.role_node.specs.Nodes.{NodeValue, due_at}
use Rattle.role_node.specs.Questions.{ask_due, takes_memory}
use Rattle.role_node.specs.declared.event.Reply.{Reply}
use Rattle.role_node.specs.declared.faults.AskFault.{AskFault}
use Rattle.role_node.specs.declared.faults.AskFault.TheVariants as ask
use Rattle.role_node.specs.declared.faults.NodeFault.{NodeFault}
use Rattle.role_node.specs.declared.faults.NodeFault.TheVariants as fault
use Rattle.role_node.specs.declared.question.Answer as answers
use Rattle.node_lock.specs.declared.receipt.Call.{Call}
use Rattle.node_lock.specs.declared.receipt.Call.TheVariants.{Step, Ask}
use Rattle.node_lock.specs.declared.receipt.Outcome.{Outcome}
use Rattle.node_lock.specs.declared.receipt.Outcome.TheVariants.{Reply as Replied, Answer as Answered, Refused}

-- the outcome of an event's reply
abbrev pub outcome_from : Result Reply NodeFault → Outcome
outcome_from (Ok reply) = Replied reply
outcome_from (Err f) = Refused f

-- the refusal of a question
abbrev pub of_ask_fault : AskFault → NodeFault
of_ask_fault ask.NoSession = fault.Session session.NoSession
of_ask_fault ask.Memory = fault.Memory

-- the outcome of a question
abbrev pub outcome_of_question : Option AskFault → answers.Answer → Outcome
outcome_of_question None answer = Answered answer
outcome_of_question (Some f) answer = Refused (of_ask_fault f)

-- the outcome that is due to a call at a node
abbrev pub outcome_due : NodeValue → Call → Outcome
outcome_due node (Step event) = outcome_from (due_at node event)
outcome_due node (Ask question) =
    outcome_of_question (ask_due (sessions_at node.history) question)
    (answer_after node.config.roles node.history question)

-- the reply to an event that is recorded
abbrev pub is_recorded_outcome : Outcome → Bool
is_recorded_outcome (Replied reply) = is_recorded (Ok reply)
is_recorded_outcome (Answered answer) = false
is_recorded_outcome (Refused f) = false

-- memory may be wanting: for an event that would be recorded, and for a listing that is due
abbrev pub MayWantMemory : NodeValue → Call → Type 0
MayWantMemory node (Step event) = IsTrue (is_recorded (due_at node event))
MayWantMemory node (Ask question) = (ask_due (sessions_at node.history) question ≡ None)
    × IsTrue (takes_memory question)
