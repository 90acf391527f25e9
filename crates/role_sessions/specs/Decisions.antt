-- Which of a session's roles count, and the decision on an access (CheckAccess of ANSI INCITS 359-2004).
use Rattle.std.specs.Prelude.{ℕ, Bool, ◌==◌, not, if◌then◌else◌, List, length, filter}
use Rattle.std.specs.Prelude.{find, codes, Contains, IsTrue, Option, Some, None}
use Rattle.rbac_state.specs.Policies.{PolicyValue, assigned_in, granted_in}
use Rattle.role_sessions.specs.declared.verdict.Rule.{Rule}
use Rattle.role_sessions.specs.declared.verdict.Rule.TheVariants.{NoSession, NotYours, NoActiveRole}
use Rattle.role_sessions.specs.declared.verdict.Rule.TheVariants.{NoneAssigned, NotPermitted}
use Rattle.role_sessions.specs.declared.verdict.Verdict.{Verdict}
use Rattle.role_sessions.specs.declared.verdict.Verdict.TheVariants.{Allow, Deny}
use Rattle.role_sessions.specs.Sessions.{Session}

-- the two relations of Core RBAC, as tests: of a user and a role, and of an operation, an object and a role
pub record Relations : Type 0 where
  pub assigned : ℕ → ℕ → Bool
  pub granted : ℕ → ℕ → ℕ → Bool

-- those of a policy
abbrev pub relations_of : PolicyValue → Relations
relations_of p = record { assigned = assigned_in p; granted = granted_in p }

-- the active roles that the session's user is assigned to now, in the order of their activation
abbrev pub counted_roles : Relations → Session → List ℕ
counted_roles relations session = filter (relations.assigned session.user) session.active

-- some counted role of the session may do the operation on the object
abbrev pub SessionMay : Relations → Session → ℕ → ℕ → Type 0
SessionMay relations session operation object =
    (role : ℕ) × Contains (counted_roles relations session) role × IsTrue (relations.granted operation object role)

-- the role found is allowed; where none is found, none has the permission
abbrev pub allowed : Option ℕ → Verdict
allowed None = Deny NotPermitted
allowed (Some role) = Allow role

-- the first denial that holds; where none does, the first counted role that has the permission is allowed
abbrev pub verdict : Relations → Option Session → ℕ → ℕ → ℕ → Verdict
verdict relations None user operation object = Deny NoSession
verdict relations (Some session) user operation object =
    if not (session.user == user) then Deny NotYours
    else (if length session.active == 0 then Deny NoActiveRole
    else (if length (counted_roles relations session) == 0 then Deny NoneAssigned
    else allowed (find (relations.granted operation object) (counted_roles relations session))))

-- the decision on an access in which just these roles of the user would be active, in this order
abbrev pub decided : Relations → List ℕ → ℕ → ℕ → ℕ → Verdict
decided relations roles user operation object =
    verdict relations (Some (record { user = user; active = roles })) user operation object

-- the code of a rule
abbrev pub rule_code : Rule → List ℕ
rule_code NoSession = codes "N1"
rule_code NotYours = codes "N2"
rule_code NoActiveRole = codes "N3"
rule_code NoneAssigned = codes "N4"
rule_code NotPermitted = codes "N5"
