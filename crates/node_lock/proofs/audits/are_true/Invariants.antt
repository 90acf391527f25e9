use Rattle.std.specs.Prelude.{◌≡◌, All, take}
use Rattle.node_lock.specs.inside.Walks.{receipts_of, event_in, IsTrueHere}
use Rattle.node_lock.proofs.audits.are_true.Given as goal

abbrev pub invariant-loop-receipt : goal.invariant-loop-receipt
invariant-loop-receipt l = record {
  same : l.replay ≡ l.fn.replay;
  all : All (IsTrueHere l.replay (event_in l.entry)) (receipts_of (take l.receipt-index l.here));
}
