use Rattle.std.proofs.Common.{◌≡◌, ◌++◌, drop, take}
use Rattle.batch_journal.specs.Readings.{used}
use Rattle.batch_journal.proofs.reading.used.Given as goal

abbrev pub invariant-loop-at : goal.invariant-loop-at
invariant-loop-at l = take l.at l.bytes ++ used (drop l.at l.bytes) ≡ used l.bytes
