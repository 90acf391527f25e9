use Rattle.std.specs.Prelude.{◌≡◌, take, All}
use Rattle.node_lock.specs.inside.Walks.{receipts_of}
use Rattle.node_lock.proofs.Keys.{behind, IsKeyed}
use Rattle.node_lock.proofs.audits.by_place.Given as goal

abbrev pub invariant-loop-receipt : goal.invariant-loop-receipt
invariant-loop-receipt l = record {
  all : receipts_of (behind l.keys.items) ≡ take l.receipt-index l.receipts;
  keyed : All IsKeyed l.keys.items;
}

abbrev pub invariant-loop-key : goal.invariant-loop-key
invariant-loop-key l = l.sorted.items ≡ behind (take l.key-index l.key-items)
