use Rattle.std.proofs.Common.{◌≡◌, map}
use Rattle.std.specs.List.{range_with_len}
use Rattle.role_node.specs.Access.{reach_at}
use Rattle.operator_lines.proofs.standing.reaches_of.Given as goal

abbrev pub invariant-loop-index : goal.invariant-loop-index
invariant-loop-index l =
    l.reaches.items ≡ map (reach_at l.node.config.roles.sizes l.node.history) (range_with_len 0 l.index)
