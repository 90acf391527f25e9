-- User assignment and permission assignment of Core RBAC (ANSI INCITS 359-2004, there UA and PA), read off the
-- streams of commands of the roles' owners.
use Rattle.std.specs.Prelude.{ℕ, Bool, false, ◌==◌, List, [], ◌∷◌, ◌++◌, Option, None, unwrap_or, if◌then◌else◌}
use Rattle.std.specs.List.{filter_map, last_or}
use Rattle.std.specs.Option.{option_map_or}
use Rattle.std.specs.FinMap as map
use Rattle.role_commands.specs.Tables.{Table}
pub use Rattle.role_commands.specs.Tables.{owns}
use Rattle.role_commands.specs.Rules.{role_of}
use Rattle.role_commands.specs.declared.command.Command.{Command}
use Rattle.rbac_state.specs.Says.{says_of_user, says_of_permission}

-- the last of the things that the commands say; `false` where they say nothing
unfoldable pub last_said : (Command → Option Bool) → List Command → Bool
last_said says commands = unwrap_or (last_or None (filter_map says commands)) false

-- the same of the stream of the role's owner; `false` where the table doesn't have the role
abbrev pub owner_said : Table → (ℕ → List Command) → ℕ → (Command → Option Bool) → Bool
owner_said table streams role says =
    option_map_or (λ owner. last_said says (streams owner)) (map.get table.owners role) false

-- user assignment: the user has the role, where `streams` gives each node's stream
abbrev pub is_user_assigned : Table → (ℕ → List Command) → ℕ → ℕ → Bool
is_user_assigned table streams user role = owner_said table streams role (says_of_user user role)

-- permission assignment: the role may do the operation on the object
abbrev pub is_permission_granted : Table → (ℕ → List Command) → ℕ → ℕ → ℕ → Bool
is_permission_granted table streams operation object role =
    owner_said table streams role (says_of_permission operation object role)

-- the streams after one more command of this node
abbrev pub with_command : (ℕ → List Command) → ℕ → Command → ℕ → List Command
with_command streams owner command node = if node == owner then streams node ++ command ∷ [] else streams node

-- what holds after a command of a node's stream, where `before` held before it: what the command says, if its
-- role is this node's and it says something
abbrev pub said_by : Table → ℕ → Command → (Command → Option Bool) → Bool → Bool
said_by table node command says before =
    if owns table node (role_of command) then unwrap_or (says command) before else before
