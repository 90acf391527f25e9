-- The answers to the lines of a client, and of an operator.
use Rattle.std.specs.Prelude.{ℕ, ◌≡◌, ◌≤◌, List, [], length, take, map, slice_get, All, Option, None, Some, IfSome}
use Rattle.std.specs.Prelude.{⊤, IsTrue, is_some, option_map}
use Rattle.std.specs.List.{flat_map}
use Rattle.link_frames.specs.lines.Lines.{ended}
use Rattle.client_lines.specs.AnswerTexts.{answer_text, IsWritten}
use Rattle.owner_shares.specs.Shares.{SharesValue}
use Rattle.role_node.specs.Access.{stream_at}
use Rattle.role_node.specs.Nodes.{NodeValue}
use Rattle.operator_lines.specs.AnswerTexts.{refused_text}
use Rattle.operator_lines.specs.Standings.{standing_at, sessions_from}
use Rattle.operator_lines.specs.Decisions.{decision_at}
use Rattle.operator_lines.specs.declared.answer.OperatorAnswer.{OperatorAnswer}
use Rattle.operator_lines.specs.declared.answer.OperatorAnswer.TheVariants as answer
use Rattle.operator_lines.specs.declared.request.OperatorRequest.{OperatorRequest}
use Rattle.operator_lines.specs.declared.request.OperatorRequest.TheVariants.{Status, Command, Sessions}
use Rattle.operator_lines.specs.declared.request.OperatorRequest.TheVariants.{Decide, DecideAll}
use Rattle.served_node.specs.Served.{served_said}
use Rattle.served_node.specs.declared.ending.Ending.{Ending}
use Rattle.served_node.specs.declared.ending.Ending.TheVariants as ending
use Rattle.served_node.specs.declared.said.Said.{Said}
use Rattle.served_node.specs.declared.told.LineAnswer.{LineAnswer}
use Rattle.served_node.specs.declared.told.LineAnswer.TheVariants as line

-- what a client hears of what came of the job of its line: of a hold what it said, else why there was none
abbrev pub answer_to : Ending Said → Option LineAnswer
answer_to (ending.Held said) = option_map line.Node (served_said said)
answer_to (ending.Refused fault) = Some (line.Refused fault)
answer_to ending.Lost = None
answer_to ending.Nothing = None

abbrev pub line_text : LineAnswer → List ℕ
line_text (line.Node answer) = answer_text answer
line_text (line.Refused fault) = refused_text fault

-- the line that a client reads, if there is an answer
abbrev pub line_due : Option LineAnswer → List ℕ
line_due None = []
line_due (Some answer) = ended (line_text answer)

-- the lines that a client reads, one after the other
abbrev pub lines_due : List (Option LineAnswer) → List ℕ
lines_due answers = flat_map line_due answers

-- each of so many lines, the first, has an answer
pub record AreAnswered (lines : ℕ) (answers : List (Option LineAnswer)) : Type 0 where
  pub many : lines ≤ length answers
  pub each : All (λ a. IsTrue (is_some a)) (take lines answers)

-- an answer that can be written, if there is one
abbrev pub IsLine : LineAnswer → Type 0
IsLine (line.Node answer) = IsWritten answer
IsLine (line.Refused fault) = ⊤

abbrev pub IsLineIfAny : Option LineAnswer → Type 0
IsLineIfAny answer = IfSome answer IsLine

-- how the node stands, beside which its links are told
abbrev pub IsStatusOf : NodeValue → Option SharesValue → OperatorAnswer → Type 0
IsStatusOf node shares (answer.Status s) = s.node ≡ standing_at shares node
IsStatusOf node shares (answer.Command c) = ⊥
IsStatusOf node shares (answer.Sessions at sessions) = ⊥
IsStatusOf node shares (answer.Decision at decision) = ⊥
IsStatusOf node shares (answer.Decisions at decisions) = ⊥
IsStatusOf node shares (answer.BadLine fault) = ⊥

-- what is answered to who asks this of the node; decisions go by the roles that these lists have of each owner, and
-- a server asks these shares first, if any
abbrev pub IsAnswerOf : NodeValue → List (List ℕ) → Option SharesValue → OperatorRequest → OperatorAnswer → Type 0
IsAnswerOf node lists shares Status a = IsStatusOf node shares a
IsAnswerOf node lists shares (Command owner place) a =
    a ≡ answer.Command (slice_get (stream_at node.config.roles.sizes node.history owner) place)
IsAnswerOf node lists shares (Sessions from) a = a ≡ answer.Sessions (length node.history) (sessions_from node from)
IsAnswerOf node lists shares (Decide asked) a = a ≡ answer.Decision (length node.history) (decision_at node lists asked)
IsAnswerOf node lists shares (DecideAll rows) a =
    a ≡ answer.Decisions (length node.history) (map (decision_at node lists) rows)
