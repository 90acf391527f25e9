-- A policy: the role table, the two relations of Core RBAC, and its room.
use Rattle.std.specs.Prelude.{◌≡◌, ℕ, Bool, false, IsTrue, List, refl}
use Rattle.std.specs.Coded.{Coded, code_by, coded×, coded_ℕ}
use Rattle.std.specs.FinSet as set
use Rattle.std.specs.Ordering.{nat_cmp, ordering_then}
use Rattle.std.specs.declared.cmp.Ordering.{Ordering}
use Rattle.role_commands.specs.Tables.{Table, table_code}
use Rattle.role_commands.specs.declared.command.Command.{Command}
use Rattle.rbac_state.specs.Says.{says_of_user, says_of_permission}
use Rattle.rbac_state.specs.Assignments.{is_user_assigned, is_permission_granted, said_by}

-- by user, and then by role
abbrev pub assignment_cmp : ℕ × ℕ → ℕ × ℕ → Ordering
assignment_cmp a b = ordering_then (nat_cmp a.0 b.0) (nat_cmp a.1 b.1)

-- by operation, and then by object
abbrev pub permission_cmp : ℕ × ℕ → ℕ × ℕ → Ordering
permission_cmp p q = ordering_then (nat_cmp p.0 q.0) (nat_cmp p.1 q.1)

-- by permission, and then by role
abbrev pub grant_cmp : (ℕ × ℕ) × ℕ → (ℕ × ℕ) × ℕ → Ordering
grant_cmp g h = ordering_then (permission_cmp g.0 h.0) (nat_cmp g.1 h.1)

-- `room` is how many commands it can take before it needs memory
pub record PolicyValue : Type 0 where
  pub table : Table
  pub assignments : set.FinSet assignment_cmp
  pub grants : set.FinSet grant_cmp
  pub room : ℕ

-- a policy is stored as the pairs of its parts
abbrev pub policy_code : Coded PolicyValue
policy_code =
    code_by ((Table × set.FinSet assignment_cmp) × (set.FinSet grant_cmp × ℕ))
    (coded× (coded× table_code (set.code (coded× coded_ℕ coded_ℕ)))
    (coded× (set.code (coded× (coded× coded_ℕ coded_ℕ) coded_ℕ)) coded_ℕ))
    (λ p. ((p.table, p.assignments), (p.grants, p.room)))
    (λ t. record { table = t.0.0; assignments = t.0.1; grants = t.1.0; room = t.1.1 }) (λ _. refl)

-- the user has the role
abbrev pub assigned_in : PolicyValue → ℕ → ℕ → Bool
assigned_in p user role = set.contains p.assignments (user, role)

-- the role may do the operation on the object
abbrev pub granted_in : PolicyValue → ℕ → ℕ → ℕ → Bool
granted_in p operation object role = set.contains p.grants ((operation, object), role)

abbrev pub HasRole : PolicyValue → ℕ → ℕ → Type 0
HasRole p user role = IsTrue (assigned_in p user role)

abbrev pub RoleMay : PolicyValue → ℕ → ℕ → ℕ → Type 0
RoleMay p operation object role = IsTrue (granted_in p operation object role)

-- some role of the user may do the operation on the object
abbrev pub UserMay : PolicyValue → ℕ → ℕ → ℕ → Type 0
UserMay p user operation object = (role : ℕ) × HasRole p user role × RoleMay p operation object role

-- so many commands can be applied, at the least, after room was made
abbrev pub least_room : ℕ
least_room = 64

-- a policy of these roles in which no user has a role and no role may do anything
pub record IsBlank (roles : Table) (p : PolicyValue) : Type 0 where
  pub table : p.table ≡ roles
  pub assigned : (user role : ℕ) → assigned_in p user role ≡ false
  pub granted : (operation object role : ℕ) → granted_in p operation object role ≡ false

-- the same table and relations, whatever the room
pub record SameRelations (old new : PolicyValue) : Type 0 where
  pub table : new.table ≡ old.table
  pub assignments : new.assignments ≡ old.assignments
  pub grants : new.grants ≡ old.grants

-- a command of this node's stream changes what it says, where its role is the node's, and nothing else
pub record IsApplied (node : ℕ) (command : Command) (old new : PolicyValue) : Type 0 where
  pub table : new.table ≡ old.table
  pub assigned : (user role : ℕ) →
      assigned_in new user role ≡ said_by old.table node command (says_of_user user role) (assigned_in old user role)
  pub granted : (operation object role : ℕ) →
      granted_in new operation object role
      ≡ said_by old.table node command (says_of_permission operation object role) (granted_in old operation object role)

-- the relations are those of the nodes' streams
pub record IsPolicyOf (streams : ℕ → List Command) (p : PolicyValue) : Type 0 where
  pub assigned : (user role : ℕ) → assigned_in p user role ≡ is_user_assigned p.table streams user role
  pub granted : (operation object role : ℕ) →
      granted_in p operation object role ≡ is_permission_granted p.table streams operation object role
