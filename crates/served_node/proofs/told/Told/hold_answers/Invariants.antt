use Rattle.std.specs.Prelude.{◌≡◌, ◌++◌, All, IsTrue, is_some, take}
use Rattle.served_node.specs.Told.{lines_due}
use Rattle.served_node.proofs.told.Told.hold_answers.Given as goal

abbrev pub invariant-loop-answer : goal.invariant-loop-answer
invariant-loop-answer l =
    (l.held ≡ l.initial.held ++ lines_due (take l.answer-index l.answers))
    × All (λ a. IsTrue (is_some a)) (take l.answer-index l.answers)
