-- What a node answers to an event and to a question.
use Rattle.std.proofs.Common.{◌≡◌, length, None, Ok, Err, sym, ap, ◌∙◌}
use Rattle.std.specs.Option.{option_map_or}
use Rattle.role_sessions.specs.declared.faults.SessionFault.TheVariants as session
use Rattle.role_node.specs.Access.{sessions_at}
use Rattle.role_node.specs.Listed.{IsWithin, answer_after}
use Rattle.role_node.specs.Nodes.{NodeValue, due_at, after_reply}
use Rattle.role_node.specs.Questions.{ask_due, IsAnswerTo}
use Rattle.role_node.specs.declared.event.Event.{Event}
use Rattle.role_node.specs.declared.event.Reply.{Reply}
use Rattle.role_node.specs.declared.faults.NodeFault.{NodeFault}
use Rattle.role_node.specs.declared.faults.NodeFault.TheVariants as fault
use Rattle.role_node.specs.declared.question.Answer.{Answer}
use Rattle.role_node.specs.declared.question.Question.{Question}
use Rattle.role_node.proofs.Exported.{one_answer}
use Rattle.client_lines.specs.declared.answer.ClientAnswer.TheVariants.{Refused}
use Rattle.served_node.specs.Answers.{listed}
use Rattle.line_pipe.specs.Answers.{after_answer, after_event, asked}

-- the event was answered
pub event_done : (node new : NodeValue) (e : Event) (r : Reply) → due_at node e ≡ Ok r → new ≡ after_reply node e r
    → new ≡ after_event node e
unfolding after_event
event_done node new e r due is = is ∙ sym (ap (after_answer node e) due)

-- it was refused
pub event_refused : (node new : NodeValue) (e : Event) (f : NodeFault) → due_at node e ≡ Err f → new ≡ node
    → new ≡ after_event node e
unfolding after_event
event_refused node new e f due is = is ∙ sym (ap (after_answer node e) due)

-- there is one answer to a question
pub asked-answer : (node : NodeValue) (q : Question) (a : Answer) → ask_due (sessions_at node.history) q ≡ None
    → IsAnswerTo node.config.roles node.history q a → IsWithin a → listed (length node.history) a ≡ asked node q
unfolding asked
asked-answer node q a due is within =
    let one = one_answer node.config.roles node.history q a is within in
    ap (listed (length node.history)) one
    ∙ sym (ap (λ o. option_map_or (λ f. Refused (fault.Session session.NoSession)) o (listed (length node.history)
    (answer_after node.config.roles node.history q))) due)
