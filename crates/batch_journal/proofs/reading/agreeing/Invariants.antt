use Rattle.std.proofs.Common.{◌≡◌, ◌+◌, ◌-◌, ◌≤◌, drop, length}
use Rattle.batch_journal.specs.Readings.{agreeing}
use Rattle.batch_journal.proofs.reading.agreeing.Given as goal

abbrev pub invariant-loop-at : goal.invariant-loop-at
invariant-loop-at l = record {
  so_far : l.at + agreeing (drop l.at l.wanted) (drop l.at l.bytes) ≡ agreeing l.wanted l.bytes;
  most : l.at ≤ length l.wanted;
  within : l.at ≤ length l.bytes;
}

abbrev pub decreases-loop-at : goal.decreases-loop-at
decreases-loop-at l = length l.wanted - l.at
