-- What holds of each kind of command.
use Rattle.std.specs.Prelude.{ℕ}
use Rattle.role_commands.specs.declared.command.Command.{Command}
use Rattle.role_commands.specs.declared.command.Command.TheVariants.{Assign, Deassign, Grant, Revoke, Clear}

-- the role that a command is about
abbrev pub role_of : Command → ℕ
role_of (Assign user role) = role
role_of (Deassign user role) = role
role_of (Grant role operation object) = role
role_of (Revoke role operation object) = role
role_of (Clear role) = role
