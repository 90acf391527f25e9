use Rattle.std.specs.Prelude.{◌≡◌, ◌≤◌, take, sum_by}
use Rattle.node_lock.specs.Inboxes.{parts_of, inbox_parts}
use Rattle.node_lock.proofs.inbox.are_all.Given as goal

abbrev pub invariant-loop-pass : goal.invariant-loop-pass
invariant-loop-pass l = record {
  sum : l.sum ≡ sum_by parts_of (take l.pass-index l.passes);
  few : l.sum ≤ inbox_parts;
}
