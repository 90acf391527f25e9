use Rattle.std.specs.Prelude.{◌≡◌, ◌≤◌, ◌++◌, length}
use Rattle.std.specs.Vec.{vec_capacity}
use Rattle.crossbeam_queue.specs.Passes.{view, IsPassOf}
use Rattle.node_lock.specs.inside.InboxRule.{pass_counts}
use Rattle.node_lock.specs.Inboxes.{inbox_parts}
use Rattle.node_lock.proofs.inbox.drain_queue.Given as goal

abbrev pub invariant-loop-i : goal.invariant-loop-i
invariant-loop-i g l = record {
  pass : IsPassOf l.queue l.all;
  known : view l.all ≡ pass_counts inbox_parts (view l.fn.all).put ((view l.fn.all).taken ++ l.left.items);
  jobs : length l.left.items ≡ l._i;
  room : l.count ≤ vec_capacity l.left;
}
