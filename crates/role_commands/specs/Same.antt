-- Whether two commands are the same.
use Rattle.std.specs.Prelude.{Bool, false, ◌==◌, ◌&&◌}
use Rattle.role_commands.specs.declared.command.Command.{Command}
use Rattle.role_commands.specs.declared.command.Command.TheVariants.{Assign, Deassign, Grant, Revoke, Clear}

abbrev pub same_command : Command → Command → Bool
same_command (Assign u r) (Assign v s) = (u == v) && (r == s)
same_command (Deassign u r) (Deassign v s) = (u == v) && (r == s)
same_command (Grant r p b) (Grant s q c) = (r == s) && (p == q) && (b == c)
same_command (Revoke r p b) (Revoke s q c) = (r == s) && (p == q) && (b == c)
same_command (Clear r) (Clear s) = r == s
same_command _ _ = false
