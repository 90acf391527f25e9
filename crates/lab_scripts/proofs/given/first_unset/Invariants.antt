use Rattle.lab_scripts.specs.inside.Flags.{AreSet, flagged}
use Rattle.lab_scripts.proofs.given.first_unset.Given as goal

abbrev pub invariant-loop-number : goal.invariant-loop-number
invariant-loop-number l = AreSet (flagged l.flags) l.from l.number
