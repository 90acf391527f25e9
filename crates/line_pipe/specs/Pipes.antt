-- What a pipe means: the text that is due for its lines. The first line is a cluster text of one node, and each
-- later one is a client line with one answer, up to the first that stops the node.
use Rattle.std.specs.Prelude.{ℕ, Bool, true, false, if◌then◌else◌, List, [], ◌∷◌}
use Rattle.std.specs.Prelude.{◌++◌, Option, Some, None, is_some, Result, Ok, Err}
use Rattle.std.specs.Result.{result_err}
use Rattle.link_frames.specs.lines.Lines.{ended, lines_of}
use Rattle.link_frames.specs.lines.LinePrograms.{text_by, bad_by}
use Rattle.role_node.specs.Nodes.{NodeValue, new_node}
use Rattle.client_lines.specs.AnswerTexts.{answer_text}
use Rattle.client_lines.specs.Requests.{request_due}
use Rattle.client_lines.specs.declared.answer.ClientAnswer.{ClientAnswer}
use Rattle.client_lines.specs.declared.answer.ClientAnswer.TheVariants.{BadLine, Stopped}
use Rattle.client_lines.specs.declared.fault.LineFault.{LineFault}
use Rattle.client_lines.specs.declared.request.Request.{Request}
use Rattle.client_lines.specs.declared.request.Request.TheVariants as request
use Rattle.line_pipe.specs.Answers.{answer_to, after_request}
use Rattle.cluster_text.specs.Setups.{setup_due}
use Rattle.cluster_text.specs.declared.cluster.Mode.TheVariants.{Pipe}
use Rattle.cluster_text.specs.declared.cluster.Setup.{Setup}
use Rattle.cluster_text.specs.declared.fault.ClusterFault.{ClusterFault}
use Rattle.cluster_text.specs.declared.fault.ClusterFault.TheVariants.{NotJson}

-- what a line asks of the node
abbrev pub request_in : NodeValue → List ℕ → Result Request LineFault
request_in node line = request_due node.config.roles.sizes line

abbrev pub answer_said : NodeValue → Result Request LineFault → ClientAnswer
answer_said node (Ok r) = answer_to node r
answer_said node (Err fault) = BadLine fault

abbrev pub after_said : NodeValue → Result Request LineFault → NodeValue
after_said node (Ok r) = after_request node r
after_said node (Err fault) = node

abbrev pub asks_to_stop : Result Request LineFault → Bool
asks_to_stop (Ok (request.Issue command)) = false
asks_to_stop (Ok (request.Client act)) = false
asks_to_stop (Ok (request.Ask question)) = false
asks_to_stop (Ok (request.Reach owner)) = false
asks_to_stop (Ok (request.Again owner place)) = false
asks_to_stop (Ok request.Stop) = true
asks_to_stop (Err fault) = false

-- the text of the answer to a line
unfoldable pub line_text : NodeValue → List ℕ → List ℕ
line_text node line = answer_text (answer_said node (request_in node line))

-- the node after the line
unfoldable pub after_line : NodeValue → List ℕ → NodeValue
after_line node line = after_said node (request_in node line)

-- whether the line stops the node
unfoldable pub stops : NodeValue → List ℕ → Bool
stops node line = asks_to_stop (request_in node line)

-- The lines are answered up to the first that stops the node: the node after a line that does not, and its answer.
unfoldable pub going_on : NodeValue → List ℕ → Option (NodeValue × List ℕ)
going_on node line = if stops node line then None else Some (after_line node line, line_text node line)

-- whether one of the lines stops the node
abbrev pub one_stops : NodeValue → List (List ℕ) → Bool
one_stops node lines = is_some (bad_by going_on 1 node lines)

-- the answer to the line that stops the node
abbrev pub stop_text : Bool → List ℕ
stop_text stopped = if stopped then ended (answer_text Stopped) else []

-- the answers to client lines
unfoldable pub answers_text : NodeValue → List (List ℕ) → List ℕ
answers_text node lines = text_by going_on node lines ++ stop_text (one_stops node lines)

-- the node that a setup says, before anything happens
abbrev pub node_of : Setup → NodeValue
node_of setup = new_node setup.config setup.me

abbrev pub opened_text : Result Setup ClusterFault → List (List ℕ) → List ℕ
opened_text (Ok setup) lines = answers_text (node_of setup) lines
opened_text (Err fault) lines = []

abbrev pub text_of_lines : List (List ℕ) → List ℕ
text_of_lines [] = []
text_of_lines (first ∷ later) = opened_text (setup_due Pipe first) later

-- the text that is due for an input
unfoldable pub pipe_text : List ℕ → List ℕ
pipe_text input = text_of_lines (lines_of input)

abbrev pub fault_of_lines : List (List ℕ) → Option ClusterFault
fault_of_lines [] = Some NotJson
fault_of_lines (first ∷ later) = result_err (setup_due Pipe first)

-- why its first line sets up no node; an absent line is not JSON
unfoldable pub opening_fault : List ℕ → Option ClusterFault
opening_fault input = fault_of_lines (lines_of input)

abbrev pub opened_stops : Result Setup ClusterFault → List (List ℕ) → Bool
opened_stops (Ok setup) lines = one_stops (node_of setup) lines
opened_stops (Err fault) lines = false

abbrev pub lines_stop : List (List ℕ) → Bool
lines_stop [] = false
lines_stop (first ∷ later) = opened_stops (setup_due Pipe first) later

-- whether one of its client lines stops the node
unfoldable pub pipe_stops : List ℕ → Bool
pipe_stops input = lines_stop (lines_of input)
