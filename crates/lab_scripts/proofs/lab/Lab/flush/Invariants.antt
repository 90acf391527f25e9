use Rattle.std.proofs.Common.{◌-◌}
use Rattle.lab_scripts.specs.inside.Kept.{lab_in}
use Rattle.lab_scripts.proofs.FlushLemmas.{Goes}
use Rattle.lab_scripts.proofs.lab.Lab.flush.Given as goal

abbrev pub invariant-loop-count : goal.invariant-loop-count
invariant-loop-count l = Goes (lab_in l.fn.self) l.limit l.count (lab_in l.self)

abbrev pub decreases-loop-count : goal.decreases-loop-count
decreases-loop-count l = l.limit - l.count
