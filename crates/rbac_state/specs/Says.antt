-- What each kind of command says of a user's role and of a role's permission: that they have it (`true`), that
-- they have it no longer (`false`), or nothing.
use Rattle.std.specs.Prelude.{ℕ, Bool, true, false, ◌==◌, ◌&&◌, if◌then◌else◌, Option, Some, None}
use Rattle.role_commands.specs.declared.command.Command.{Command}
use Rattle.role_commands.specs.declared.command.Command.TheVariants.{Assign, Deassign, Grant, Revoke, Clear}

-- whether the user has the role
abbrev pub says_of_user : ℕ → ℕ → Command → Option Bool
says_of_user user role (Assign u r) = if (user == u) && (role == r) then Some true else None
says_of_user user role (Deassign u r) = if (user == u) && (role == r) then Some false else None
says_of_user user role (Grant r p b) = None
says_of_user user role (Revoke r p b) = None
says_of_user user role (Clear r) = if role == r then Some false else None

-- whether the role may do the operation on the object
abbrev pub says_of_permission : ℕ → ℕ → ℕ → Command → Option Bool
says_of_permission operation object role (Assign u r) = None
says_of_permission operation object role (Deassign u r) = None
says_of_permission operation object role (Grant r p b) = if (operation == p) && (object == b) && (role == r)
    then Some true else None
says_of_permission operation object role (Revoke r p b) = if (operation == p) && (object == b) && (role == r)
    then Some false else None
says_of_permission operation object role (Clear r) = if role == r then Some false else None
