-- The answers to questions: a decision, or the listing of a set. Under the relations and the sessions of a node, and so
-- after a history.
use Rattle.std.specs.Prelude.{◌≡◌, ℕ, Bool, true, false, if◌then◌else◌, IsTrue}
use Rattle.std.specs.Prelude.{IsSomeAnd, List, Option, Some, None, Result, Ok, Err}
use Rattle.std.specs.FinMap as map
use Rattle.std.specs.Ordering.{nat_cmp}
use Rattle.role_commands.specs.Tables.{Table}
use Rattle.rbac_state.specs.Policies.{permission_cmp}
use Rattle.rbac_state.specs.Listings.{IsListing}
use Rattle.role_sessions.specs.Sessions.{SessionState}
use Rattle.role_sessions.specs.Decisions.{Relations, counted_roles, SessionMay, verdict}
use Rattle.role_sessions.specs.declared.faults.SessionFault.{SessionFault}
use Rattle.role_sessions.specs.declared.faults.SessionFault.TheVariants as session
use Rattle.role_sessions.specs.declared.verdict.Verdict as verdicts
use Rattle.role_node.specs.Access.{relations_at, sessions_at}
use Rattle.role_node.specs.declared.event.Event.{Event}
use Rattle.role_node.specs.declared.faults.AskFault.{AskFault}
use Rattle.role_node.specs.declared.faults.AskFault.TheVariants as ask
use Rattle.role_node.specs.declared.question.Answer.{Answer}
use Rattle.role_node.specs.declared.question.Answer.TheVariants.{Verdict, Users, Roles, Permissions, Operations}
use Rattle.role_node.specs.declared.question.Question.{Question}
use Rattle.role_node.specs.declared.question.Question.TheVariants.{Check, AssignedUsers, AssignedRoles}
use Rattle.role_node.specs.declared.question.Question.TheVariants.{RolePermissions, UserPermissions, RoleOperations}
use Rattle.role_node.specs.declared.question.Question.TheVariants.{UserOperations, SessionRoles, SessionPermissions}

-- the answer is a decision, of which this holds
abbrev pub IsVerdict : Answer → (verdicts.Verdict → Type 0) → Type 0
IsVerdict answer P = (decision : verdicts.Verdict) × (answer ≡ Verdict decision) × P decision

-- it is a list of users, of which this holds
abbrev pub AreUsers : Answer → (List ℕ → Type 0) → Type 0
AreUsers answer P = (users : List ℕ) × (answer ≡ Users users) × P users

-- .. of roles
abbrev pub AreRoles : Answer → (List ℕ → Type 0) → Type 0
AreRoles answer P = (roles : List ℕ) × (answer ≡ Roles roles) × P roles

-- .. of permissions, each an operation and an object
abbrev pub ArePermissions : Answer → (List (ℕ × ℕ) → Type 0) → Type 0
ArePermissions answer P = (permissions : List (ℕ × ℕ)) × (answer ≡ Permissions permissions) × P permissions

-- .. of operations
abbrev pub AreOperations : Answer → (List ℕ → Type 0) → Type 0
AreOperations answer P = (operations : List ℕ) × (answer ≡ Operations operations) × P operations

-- some role of the user may do the operation on the object
abbrev pub SomeRoleMay : Relations → ℕ → ℕ → ℕ → Type 0
SomeRoleMay relations user operation object =
    (role : ℕ) × IsTrue (relations.assigned user role) × IsTrue (relations.granted operation object role)

-- The answer to the question under these relations and sessions. A listing is ascending and without repeats, save that
-- the roles that count in a session stand in the order of their activation.
abbrev pub IsAnswerUnder : Relations → SessionState → Question → Answer → Type 0
IsAnswerUnder relations sessions (Check id user operation object) answer =
    IsVerdict answer (λ decision. decision
    ≡ verdict relations (map.get sessions.open_sessions id) user operation object)
IsAnswerUnder relations sessions (AssignedUsers role) answer =
    AreUsers answer (IsListing nat_cmp (λ user. IsTrue (relations.assigned user role)))
IsAnswerUnder relations sessions (AssignedRoles user) answer =
    AreRoles answer (IsListing nat_cmp (λ role. IsTrue (relations.assigned user role)))
IsAnswerUnder relations sessions (RolePermissions role) answer =
    ArePermissions answer (IsListing permission_cmp (λ p. IsTrue (relations.granted p.0 p.1 role)))
IsAnswerUnder relations sessions (UserPermissions user) answer =
    ArePermissions answer (IsListing permission_cmp (λ p. SomeRoleMay relations user p.0 p.1))
IsAnswerUnder relations sessions (RoleOperations role object) answer =
    AreOperations answer (IsListing nat_cmp (λ operation. IsTrue (relations.granted operation object role)))
IsAnswerUnder relations sessions (UserOperations user object) answer =
    AreOperations answer (IsListing nat_cmp (λ operation. SomeRoleMay relations user operation object))
IsAnswerUnder relations sessions (SessionRoles id) answer =
    AreRoles answer (λ roles.
    IsSomeAnd (map.get sessions.open_sessions id) (λ found. roles ≡ counted_roles relations found))
IsAnswerUnder relations sessions (SessionPermissions id) answer =
    ArePermissions answer (λ permissions. IsSomeAnd (map.get sessions.open_sessions id)
    (λ found. IsListing permission_cmp (λ p. SessionMay relations found p.0 p.1) permissions))

-- the answer that is due after this history
abbrev pub IsAnswerTo : Table → List Event → Question → Answer → Type 0
IsAnswerTo roles history question answer =
    IsAnswerUnder (relations_at roles history) (sessions_at history) question answer

-- where a session is to be listed that is not open there is no answer
abbrev pub session_needed : SessionState → ℕ → Option AskFault
session_needed sessions id = if map.contains_key sessions.open_sessions id then None else Some ask.NoSession

-- the fault that is due
abbrev pub ask_due : SessionState → Question → Option AskFault
ask_due sessions (SessionRoles id) = session_needed sessions id
ask_due sessions (SessionPermissions id) = session_needed sessions id
ask_due sessions question = None

-- a decision takes no memory, a listing does
abbrev pub takes_memory : Question → Bool
takes_memory (Check id user operation object) = false
takes_memory question = true

-- the fault that is due is answered; where none is, only memory can be wanting, and for a listing alone
abbrev pub IsAsked : Option AskFault → Question → Result Answer AskFault → Type 0
IsAsked due question (Ok answer) = due ≡ None
IsAsked due question (Err ask.NoSession) = due ≡ Some ask.NoSession
IsAsked due question (Err ask.Memory) = (due ≡ None) × IsTrue (takes_memory question)

-- a listing's fault
abbrev pub of_listing_fault : SessionFault → AskFault
of_listing_fault session.NoSession = ask.NoSession
of_listing_fault fault = ask.Memory
