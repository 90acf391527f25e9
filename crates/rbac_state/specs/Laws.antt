-- How one more command of a stream changes the two relations.
use Rattle.std.specs.Prelude.{◌≡◌, ℕ, List, []}
use Rattle.role_commands.specs.Tables.{Table}
use Rattle.role_commands.specs.declared.command.Command.{Command}
use Rattle.rbac_state.specs.Says.{says_of_user, says_of_permission}
use Rattle.rbac_state.specs.Assignments.{is_user_assigned, is_permission_granted, with_command, said_by}
use Rattle.rbac_state.specs.Policies.{PolicyValue, IsBlank, SameRelations, IsApplied, IsPolicyOf}

-- one more command of a node changes user assignment as it says
abbrev pub OneMoreUser : Type 0
OneMoreUser =
    (table : Table) (streams : ℕ → List Command) (node : ℕ) (command : Command) (user role : ℕ) →
    is_user_assigned table (with_command streams node command) user role
    ≡ said_by table node command (says_of_user user role) (is_user_assigned table streams user role)

-- one more command of a node changes permission assignment as it says
abbrev pub OneMorePermission : Type 0
OneMorePermission =
    (table : Table) (streams : ℕ → List Command) (node : ℕ) (command : Command) (operation object role : ℕ) →
    is_permission_granted table (with_command streams node command) operation object role
    ≡ said_by table node command (says_of_permission operation object role)
    (is_permission_granted table streams operation object role)

-- a blank policy is that of the streams with no commands
abbrev pub BlankIsOfNoCommands : Type 0
BlankIsOfNoCommands = (table : Table) (p : PolicyValue) → IsBlank table p → IsPolicyOf (λ node. []) p

-- a policy of the streams, to which one more command of a node is applied, is that of the streams with it
abbrev pub AppliedIsOfOneMore : Type 0
AppliedIsOfOneMore =
    (streams : ℕ → List Command) (node : ℕ) (command : Command) (old new : PolicyValue) →
    IsPolicyOf streams old → IsApplied node command old new → IsPolicyOf (with_command streams node command) new

-- room that is made changes nothing of this
abbrev pub SameIsOfTheSame : Type 0
SameIsOfTheSame =
    (streams : ℕ → List Command) (old new : PolicyValue) → IsPolicyOf streams old → SameRelations old new
    → IsPolicyOf streams new
