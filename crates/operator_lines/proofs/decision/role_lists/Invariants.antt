use Rattle.std.proofs.Common.{◌≡◌, map}
use Rattle.std.specs.List.{range_with_len}
use Rattle.role_commands.specs.Tables.{roles_of_owner}
use Rattle.operator_lines.proofs.decision.role_lists.Given as goal

abbrev pub invariant-loop-index : goal.invariant-loop-index
invariant-loop-index l = l.lists.items ≡ map (roles_of_owner l.table) (range_with_len 0 l.index)
