use Rattle.std.specs.Prelude.{◌≡◌, ◌≤◌, length, take, map, vec_len}
use Rattle.std.specs.Vec.{vec_capacity}
use Rattle.node_lock.specs.Pools.{call_of}
use Rattle.node_lock.proofs.report.receipts_in_order.Given as goal

abbrev pub invariant-loop-slot : goal.invariant-loop-slot
invariant-loop-slot l = record {
  within : l.index ≤ length l.calls;
  told : map call_of l.receipts.items ≡ take l.index l.calls;
  made : vec_len l.receipts ≡ l.index;
  room : length l.calls ≤ vec_capacity l.receipts;
}
