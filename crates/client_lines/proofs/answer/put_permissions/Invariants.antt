use Rattle.std.proofs.Common.{◌≡◌, ◌*◌, ◌≤◌, length, drop, IsAscii}
use Rattle.client_lines.specs.inside.Items.{behind_commas}
use Rattle.client_lines.proofs.answer.put_permissions.Given as goal

abbrev pub invariant-loop-left : goal.invariant-loop-left
invariant-loop-left l = record {
  written : drop l.start l.block ≡ behind_commas (drop l.left l.permissions);
  ascii : IsAscii (drop l.start l.block);
  few : l.left ≤ length l.permissions;
  room : l.left * 19 ≤ l.start;
  within : l.start ≤ 304;
}

abbrev pub decreases-loop-left : goal.decreases-loop-left
decreases-loop-left l = l.left
