use Rattle.std.proofs.Common.{◌-◌, length}
use Rattle.batch_journal.proofs.ReadingLemmas.{ReadSoFar}
use Rattle.batch_journal.proofs.reading.batches_in.Given as goal

abbrev pub invariant-loop-digits : goal.invariant-loop-digits
invariant-loop-digits l = ReadSoFar l.key l.bytes l.digits.items l.count l.end

abbrev pub decreases-loop-digits : goal.decreases-loop-digits
decreases-loop-digits l = length l.bytes - l.end
