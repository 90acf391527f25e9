-- What a node keeps, as its history says it.
use Rattle.std.proofs.Common.{◌≡◌, ℕ, List, Result, ap, ◌∙◌, subst}
use Rattle.std.specs.Prelude.{IfOk}
use Rattle.role_commands.specs.Tables.{Table}
use Rattle.owner_streams.specs.Places.{stream}
use Rattle.rbac_state.specs.Assignments.{is_user_assigned, is_permission_granted}
use Rattle.role_sessions.specs.Sessions.{SessionState}
use Rattle.role_sessions.specs.Decisions.{Relations, relations_of}
use Rattle.role_node.specs.Access.{relations_at, sessions_at}
use Rattle.role_node.specs.Questions.{IsAnswerUnder, IsAnswerTo}
use Rattle.role_node.specs.declared.faults.AskFault.{AskFault}
use Rattle.role_node.specs.declared.question.Answer.{Answer}
use Rattle.role_node.specs.declared.question.Question.{Question}
use Rattle.role_node.specs.Histories.{packets}
use Rattle.role_node.specs.inside.Kept.{IsStateAfter}
use Rattle.role_node.specs.inside.Fields.{IsNode, node_value}
use Rattle.role_node.specs.Nodes.{NodeValue, IsLegalNode}
use Rattle.role_node.specs.declared.event.Event.{Event}
use Rattle.role_node.specs.declared.node.Node.TheInside.{Inside}
use Rattle.role_node.specs.declared.state.State.{State}
use Rattle.role_node.proofs.EntryLemmas.{legal}

-- the policy's relations are the history's
pub relations_are : (roles : Table) (history : List Event) (a : State) → IsStateAfter roles history a
    → relations_of a.policy ≡ relations_at roles history
relations_are roles history a h =
    let assigned = λ (user role : ℕ).
    h.policy.assigned user role
    ∙ ap (λ table. is_user_assigned table (λ owner. stream roles.sizes owner (packets history)) user role) h.table in
    let granted = λ (operation object role : ℕ).
    h.policy.granted operation object role
    ∙ ap (λ table. is_permission_granted table (λ owner.
    stream roles.sizes owner (packets history)) operation object role) h.table in
    λ i. record {
      assigned = λ user role. assigned user role i;
      granted = λ operation object role. granted operation object role i;
    }

-- a node's history is legal
pub legal_inside : (a : Inside) (v : NodeValue) → IsNode a → node_value a ≡ v → IsLegalNode v
legal_inside a v is e = subst IsLegalNode e (legal a.config a.me a.entries.items is.entries)

-- an answer under what a node keeps is one after its history
pub answered_after : (roles : Table) (history : List Event) (a : State) (question : Question)
    (r : Result Answer AskFault)
    → IsStateAfter roles history a →
    IfOk r (IsAnswerUnder (relations_of a.policy) a.sessions.state question)
    → IfOk r (IsAnswerTo roles history question)
answered_after roles history a question r h is =
    let P : Relations → Type 0 = λ relations. IfOk r (IsAnswerUnder relations (sessions_at history) question) in
    let Q : SessionState → Type 0 = λ sessions. IfOk r (IsAnswerUnder (relations_of a.policy) sessions question) in
    subst P (relations_are roles history a h) (subst Q h.sessions is)
