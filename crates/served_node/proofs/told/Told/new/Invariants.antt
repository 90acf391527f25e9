use Rattle.std.specs.Prelude.{◌≡◌, All, None, replicate}
use Rattle.served_node.specs.Told.{IsLineIfAny}
use Rattle.served_node.proofs.told.Told.new.Given as goal

abbrev pub invariant-loop-line : goal.invariant-loop-line
invariant-loop-line l = (l.answers.items ≡ replicate l._line None) × All IsLineIfAny l.answers.items
