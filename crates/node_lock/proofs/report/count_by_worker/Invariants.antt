use Rattle.std.specs.Prelude.{◌≡◌, ◌≤◌, take}
use Rattle.node_lock.specs.Pools.{recorded_by}
use Rattle.node_lock.proofs.report.count_by_worker.Given as goal

abbrev pub invariant-loop-receipt : goal.invariant-loop-receipt
invariant-loop-receipt l = record {
  count : l.count ≡ recorded_by (take l.receipt-index l.receipts) l.worker;
  few : l.count ≤ l.receipt-index;
}
