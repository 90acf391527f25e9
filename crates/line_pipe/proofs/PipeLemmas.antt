-- The text of client lines, line by line.
use Rattle.std.proofs.Common.{◌≡◌, ℕ, ◌+◌, ◌<◌, Bool, true, false, nat_lt, List, [], ◌∷◌, ◌++◌}
use Rattle.std.proofs.Common.{length, Option, Some, None, Result, Ok, Err, refl, sym, ap, ◌∙◌, arith, append-nil}
use Rattle.std.specs.Prelude.{is_some}
use Rattle.std.specs.Option.{option_map_or}
use Rattle.std.proofs.lemmas.Bool.Decides.{nat_tests}
use Rattle.link_frames.specs.lines.Lines.{ended}
use Rattle.link_frames.specs.lines.LinePrograms.{text_by, bad_by}
use Rattle.link_frames.proofs.Exported.{lines_of-nil, text_by-nil, text_by-good}
use Rattle.link_frames.proofs.Exported.{text_by-bad, bad_by-nil, bad_by-good, bad_by-bad}
use Rattle.role_node.specs.Nodes.{NodeValue}
use Rattle.client_lines.specs.AnswerTexts.{answer_text}
use Rattle.client_lines.specs.Requests.{request_due, most_line_bytes}
use Rattle.client_lines.specs.declared.answer.ClientAnswer.TheVariants.{Stopped, BadLine}
use Rattle.client_lines.specs.declared.fault.LineFault.{LineFault}
use Rattle.client_lines.specs.declared.fault.LineFault.TheVariants.{NotJson}
use Rattle.client_lines.specs.declared.request.Request.{Request}
use Rattle.client_lines.specs.declared.request.Request.TheVariants as request
use Rattle.line_pipe.specs.Answers.{answer_to}
use Rattle.line_pipe.specs.Pipes.{request_in, answer_said, after_said, asks_to_stop, stops, line_text}
use Rattle.line_pipe.specs.Pipes.{after_line, going_on, one_stops, stop_text, answers_text}
use Rattle.line_pipe.specs.inside.Steps.{client_text}

-- a line that does not stop the node
pub goes_on : (node : NodeValue) (line : List ℕ) → stops node line ≡ false
    → going_on node line ≡ Some (after_line node line, line_text node line)
unfolding going_on
goes_on node line e = rw e refl

-- one that does
pub stops_here : (node : NodeValue) (line : List ℕ) → stops node line ≡ true → going_on node line ≡ None
unfolding going_on
stops_here node line e = rw e refl

stop_said : (node : NodeValue) (r : Result Request LineFault) → asks_to_stop r ≡ true
    → answer_text (answer_said node r) ≡ answer_text Stopped
unfolding answer_to
stop_said node (Ok (request.Issue command)) e = absurd cc
stop_said node (Ok (request.Client act)) e = absurd cc
stop_said node (Ok (request.Ask question)) e = absurd cc
stop_said node (Ok (request.Reach owner)) e = absurd cc
stop_said node (Ok (request.Again owner place)) e = absurd cc
stop_said node (Ok request.Stop) e = refl
stop_said node (Err fault) e = absurd cc

-- the answer to the line that stops the node
stop_line : (node : NodeValue) (line : List ℕ) → stops node line ≡ true → line_text node line ≡ answer_text Stopped
unfolding stops line_text
stop_line node line e = stop_said node (request_in node line) e

same_number : (m k : ℕ) (f g : NodeValue × List ℕ → Option ℕ) → ((p : NodeValue × List ℕ)
    → is_some (f p) ≡ is_some (g p))
    → (o : Option (NodeValue × List ℕ)) → is_some (option_map_or f o (Some m)) ≡ is_some (option_map_or g o (Some k))
same_number m k f g same None = refl
same_number m k f g same (Some p) = same p

-- whatever number the first line has
pub any_number : (m k : ℕ) (node : NodeValue) (lines : List (List ℕ))
    → is_some (bad_by going_on m node lines) ≡ is_some (bad_by going_on k node lines)
unfolding bad_by
any_number m k node [] = refl
any_number m k node (line ∷ lines) =
    same_number m k (λ p. bad_by going_on (m + 1) p.0 lines) (λ p. bad_by going_on (k + 1) p.0 lines)
    (λ p. any_number (m + 1) (k + 1) p.0 lines) (going_on node line)

-- no lines have no text
pub answers_text-nil : (node : NodeValue) → answers_text node [] ≡ []
unfolding answers_text text_by bad_by
answers_text-nil node = refl

pub client_text-nil : (node : NodeValue) → client_text node [] ≡ []
client_text-nil node = ap (answers_text node) lines_of-nil ∙ answers_text-nil node

-- a line that stops the node is the last that is answered
pub answers_text-stop : (node : NodeValue) (line : List ℕ) (lines : List (List ℕ)) → stops node line ≡ true
    → answers_text node (line ∷ lines) ≡ ended (line_text node line)
unfolding answers_text
answers_text-stop node line lines e =
    let none = stops_here node line e in
    ap (λ t. t ++ stop_text (one_stops node (line ∷ lines))) (text_by-bad going_on node line lines none)
    ∙ ap (λ o. [] ++ stop_text (is_some o)) (bad_by-bad going_on 1 node line lines none)
    ∙ ap ended (sym (stop_line node line e))

pub one_stops-stop : (node : NodeValue) (line : List ℕ) (lines : List (List ℕ)) → stops node line ≡ true
    → one_stops node (line ∷ lines) ≡ true
one_stops-stop node line lines e = ap is_some (bad_by-bad going_on 1 node line lines (stops_here node line e))

-- one line has one answer
pub answers_text-last : (node : NodeValue) (line : List ℕ) → answers_text node (line ∷ []) ≡ ended (line_text node line)
unfolding answers_text
answers_text-last node line = by_stop (stops node line) refl
  where
    by_stop : (b : Bool) → stops node line ≡ b
        → text_by going_on node (line ∷ []) ++ stop_text (one_stops node (line ∷ [])) ≡ ended (line_text node line)
    by_stop true e = answers_text-stop node line [] e
    by_stop false e =
        let good = goes_on node line e in
        ap (λ t. t ++ stop_text (one_stops node (line ∷ [])))
        (text_by-good going_on node (after_line node line) line (line_text node line) [] good
        ∙ ap (λ t. ended (line_text node line) ++ t) (text_by-nil going_on (after_line node line)) ∙ append-nil _)
        ∙ ap (λ o. ended (line_text node line) ++ stop_text (is_some o))
        (bad_by-good going_on 1 node (after_line node line) line (line_text node line) [] good
        ∙ bad_by-nil going_on 2 (after_line node line))
        ∙ append-nil _

-- ---- a line that is too long

long_request : (node : NodeValue) (line : List ℕ) → most_line_bytes < length line → request_in node line ≡ Err NotJson
unfolding request_due
long_request node line long =
    let past : nat_lt most_line_bytes (length line) ≡ true = grind (arith, nat_tests) in rw past refl

pub long_text : (node : NodeValue) (line : List ℕ) → most_line_bytes < length line
    → line_text node line ≡ answer_text (BadLine NotJson)
unfolding line_text
long_text node line long = ap (λ r. answer_text (answer_said node r)) (long_request node line long)

pub long_goes_on : (node : NodeValue) (line : List ℕ) → most_line_bytes < length line → stops node line ≡ false
unfolding stops
long_goes_on node line long = ap asks_to_stop (long_request node line long)

pub long_changes_nothing : (node : NodeValue) (line : List ℕ) → most_line_bytes < length line
    → node ≡ after_line node line
unfolding after_line
long_changes_nothing node line long = sym (ap (after_said node) (long_request node line long))
