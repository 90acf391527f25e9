-- What the decision and the sessions mean, beyond what one call does.
use Rattle.std.specs.Prelude.{◌≡◌, ◌≢◌, ℕ, ◌≤◌, List, ◌++◌, length, Option, None, IfSome, IsSomeAnd, Contains, IsTrue}
use Rattle.std.specs.FinMap as map
use Rattle.role_commands.specs.declared.command.Command.TheVariants.{Assign, Deassign}
use Rattle.rbac_state.specs.Assignments.{owns}
use Rattle.rbac_state.specs.Policies.{PolicyValue, assigned_in, SameRelations, IsApplied}
use Rattle.role_sessions.specs.declared.event.ClientEvent.{ClientEvent}
use Rattle.role_sessions.specs.declared.verdict.Rule.{Rule}
use Rattle.role_sessions.specs.declared.verdict.Verdict.TheVariants.{Allow, Deny}
use Rattle.role_sessions.specs.Sessions.{Session, opened_count, session_in, state_of}
use Rattle.role_sessions.specs.Decisions.{Relations, relations_of, counted_roles, verdict}

-- the user is assigned to the role, which may do the operation on the object
abbrev pub Permits : Relations → ℕ → ℕ → ℕ → ℕ → Type 0
Permits relations user operation object role =
    IsTrue (relations.assigned user role) × IsTrue (relations.granted operation object role)

-- CheckAccess: what is allowed is allowed in a role that is active in the user's open session, that the user is
-- assigned to now, and that has the permission
abbrev pub AllowedInARole : Type 0
AllowedInARole =
    (relations : Relations) (found : Option Session) (user operation object role : ℕ) →
    verdict relations found user operation object ≡ Allow role →
    IsSomeAnd found (λ session. (session.user ≡ user) × Contains session.active role
    × Permits relations user operation object role)

-- what is denied in the user's open session, no role that is active in it permits
abbrev pub DeniedForWantOfARole : Type 0
DeniedForWantOfARole =
    (relations : Relations) (found : Option Session) (user operation object : ℕ) (rule : Rule) →
    verdict relations found user operation object ≡ Deny rule →
    IfSome found (λ session. session.user ≡ user → (role : ℕ) → Contains session.active role
    → ¬ (Permits relations user operation object role))

-- a role that counts is active, and the user is assigned to it
abbrev pub CountedAreAssigned : Type 0
CountedAreAssigned =
    (relations : Relations) (session : Session) (role : ℕ) → Contains (counted_roles relations session) role →
    Contains session.active role × IsTrue (relations.assigned session.user role)

-- after a deassign by its owner the role doesn't count
abbrev pub DeassignedCountsNoMore : Type 0
DeassignedCountsNoMore =
    (node user role : ℕ) (old new : PolicyValue) (session : Session) → IsApplied node (Deassign user role) old new
    → IsTrue (owns old.table node role) →
    session.user ≡ user → ¬ (Contains (counted_roles (relations_of new) session) role)

-- a deassign of a role that the user had, and a new assign, leave the roles that count, with no new activation
abbrev pub ReassignedCountsAgain : Type 0
ReassignedCountsAgain =
    (node user role : ℕ) (old between new : PolicyValue) (session : Session) → IsTrue (assigned_in old user role) →
    IsApplied node (Deassign user role) old between → IsApplied node (Assign user role) between new →
    counted_roles (relations_of new) session ≡ counted_roles (relations_of old) session

-- room that is made in a policy changes no answer
abbrev pub RelationsStay : Type 0
RelationsStay = (old new : PolicyValue) → SameRelations old new → relations_of new ≡ relations_of old

-- the state has the sessions that are open
abbrev pub StateHasTheOpen : Type 0
StateHasTheOpen = (events : List ClientEvent) (id : ℕ)
    → map.get (state_of events).open_sessions id ≡ session_in events id

-- and counts all that were opened, no more than there are events
abbrev pub StateCountsTheOpened : Type 0
StateCountsTheOpened = (events : List ClientEvent) → ((state_of events).opened ≡ opened_count events)
    × (opened_count events ≤ length events)

-- the ids are those from 1 up to how many were opened
abbrev pub IdsAreGivenInOrder : Type 0
IdsAreGivenInOrder = (events : List ClientEvent) (id : ℕ) → session_in events id ≢ None
    → (1 ≤ id) × (id ≤ opened_count events)

-- the id of a session that was closed is never used again
abbrev pub ClosedStayClosed : Type 0
ClosedStayClosed =
    (events later : List ClientEvent) (id : ℕ) → id ≤ opened_count events → session_in events id ≡ None
    → session_in (events ++ later) id ≡ None
