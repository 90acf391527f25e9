use Rattle.std.proofs.Common.{◌≡◌, map, take}
use Rattle.operator_lines.specs.Decisions.{decision_at}
use Rattle.operator_lines.proofs.decision.decisions_of.Given as goal

abbrev pub invariant-loop-access : goal.invariant-loop-access
invariant-loop-access l = l.decisions.items ≡ map (decision_at l.node l.lists) (take l.access-index l.asked)
