use Rattle.std.proofs.Common.{◌≡◌, ◌+◌, ◌-◌, ◌≤◌, ◌++◌, vec_len}
use Rattle.std.specs.Vec.{vec_capacity}
use Rattle.batch_journal.specs.Digits.{digits_of}
use Rattle.batch_journal.proofs.digits.push_digits.Given as goal

abbrev pub invariant-loop : goal.invariant-loop
invariant-loop l = record {
  digits : l.bytes.items ++ digits_of (l.count - l.counter) l.left ≡ l.fn.bytes.items ++ digits_of l.fn.count
      l.fn.number;
  len : vec_len l.bytes ≡ vec_len l.fn.bytes + l.counter;
  capacity : vec_capacity l.fn.bytes ≤ vec_capacity l.bytes;
}
