use Rattle.std.specs.Prelude.{◌≡◌, All, take}
use Rattle.node_lock.specs.inside.Walks.{receipts_of}
use Rattle.node_lock.specs.declared.receipt.Receipt.{Receipt}
use Rattle.node_lock.proofs.audits.split_at_place.Given as goal

abbrev pub invariant-loop-receipt : goal.invariant-loop-receipt
invariant-loop-receipt l = record {
  count : l.count ≡ l.receipt-index;
  here : All (λ (r : Receipt). r.place ≡ l.place) (receipts_of (take l.receipt-index l.rest));
}
