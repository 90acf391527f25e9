use Rattle.std.proofs.Common.{◌≡◌, ◌+◌, ◌-◌, ◌≤◌, length, drop}
use Rattle.std.specs.List.{prefix_len}
use Rattle.client_lines.specs.inside.PlainLines.{is_plain}
use Rattle.client_lines.proofs.plain_line.plain_end.Given as goal

abbrev pub invariant-loop-end : goal.invariant-loop-end
invariant-loop-end l = record {
  same_end : l.from + prefix_len is_plain (drop l.from l.bytes) ≡ l.end + prefix_len is_plain (drop l.end l.bytes);
  within : l.end ≤ length l.bytes;
}

abbrev pub decreases-loop-end : goal.decreases-loop-end
decreases-loop-end l = length l.bytes - l.end
