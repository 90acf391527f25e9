-- `same_command` tells whether two commands are one.
use Rattle.std.proofs.Common.{◌≡◌, true, arith}
use Rattle.std.proofs.lemmas.Bool.Decides.{nat_tests}
use Rattle.role_commands.specs.Same.{same_command}
use Rattle.role_commands.specs.declared.command.Command.{Command}
use Rattle.role_commands.specs.declared.command.Command.TheVariants.{Assign, Deassign, Grant, Revoke, Clear}

pub same_command-self : (c : Command) → same_command c c ≡ true
same_command-self (Assign u r) = grind (arith, nat_tests)
same_command-self (Deassign u r) = grind (arith, nat_tests)
same_command-self (Grant r p b) = grind (arith, nat_tests)
same_command-self (Revoke r p b) = grind (arith, nat_tests)
same_command-self (Clear r) = grind (arith, nat_tests)

pub same_command_is : (c d : Command) → same_command c d ≡ true → c ≡ d
same_command_is (Assign u r) (Assign v s) e = grind (arith, nat_tests)
same_command_is (Deassign u r) (Deassign v s) e = grind (arith, nat_tests)
same_command_is (Grant r p b) (Grant s q c) e = grind (arith, nat_tests)
same_command_is (Revoke r p b) (Revoke s q c) e = grind (arith, nat_tests)
same_command_is (Clear r) (Clear s) e = grind (arith, nat_tests)
same_command_is c d e = cc
