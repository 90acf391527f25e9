use Rattle.std.proofs.Common.{◌≡◌}
use Rattle.lab_scripts.specs.inside.Flags.{with_many}
use Rattle.lab_scripts.specs.inside.Kept.{given_in}
use Rattle.lab_scripts.proofs.given.Given.mark_many.Given as goal

abbrev pub invariant-loop-number : goal.invariant-loop-number
invariant-loop-number l = given_in l.self ≡ with_many (given_in l.fn.self) l.first l.number
