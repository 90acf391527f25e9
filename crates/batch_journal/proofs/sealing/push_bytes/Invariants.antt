use Rattle.std.proofs.Common.{◌≡◌, ◌+◌, ◌*◌, ◌≤◌, ◌++◌, drop, vec_len}
use Rattle.std.specs.List.{flat_map}
use Rattle.std.specs.Vec.{vec_capacity}
use Rattle.batch_journal.specs.Digits.{digits_of}
use Rattle.batch_journal.proofs.sealing.push_bytes.Given as goal

abbrev pub invariant-loop-byte : goal.invariant-loop-byte
invariant-loop-byte l = record {
  digits : l.bytes.items ++ flat_map (digits_of 2) (drop l.byte-index l.more)
      ≡ l.fn.bytes.items ++ flat_map (digits_of 2) l.more;
  len : vec_len l.bytes ≡ vec_len l.fn.bytes + 2 * l.byte-index;
  capacity : vec_capacity l.fn.bytes ≤ vec_capacity l.bytes;
}
