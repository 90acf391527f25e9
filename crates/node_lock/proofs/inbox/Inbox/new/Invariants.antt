use Rattle.std.specs.Prelude.{◌≡◌, ◌+◌, [], All, sum_by, vec_len}
use Rattle.crossbeam_queue.specs.Passes.{view, IsPassOf}
use Rattle.node_lock.specs.Inboxes.{inbox_parts, parts_of, IsNewPassTo}
use Rattle.node_lock.proofs.inbox.Inbox.new.Given as goal

abbrev pub invariant-loop-number : goal.invariant-loop-number
invariant-loop-number l = record {
  pass : IsPassOf l.queue l.first;
  known : (view l.first).parts + l._number ≡ inbox_parts + 1;
  put : (view l.first).put ≡ [];
  taken : (view l.first).taken ≡ [];
  made : vec_len l.made + 1 ≡ l._number;
  fresh : All (IsNewPassTo l.queue.table.shared.table_id) l.made.items;
  parts : sum_by parts_of l.made.items + 1 ≡ l._number;
}
