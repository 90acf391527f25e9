use Rattle.std.proofs.Common.{◌≡◌}
use Rattle.kept_node.specs.NodeHeads.{roles_below}
use Rattle.kept_node.proofs.head.roles_digits.Given as goal

abbrev pub invariant-loop-role : goal.invariant-loop-role
invariant-loop-role l = l.bytes.items ≡ roles_below l.roles l.role
