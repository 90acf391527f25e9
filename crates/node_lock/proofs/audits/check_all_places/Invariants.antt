use Rattle.std.specs.Prelude.{◌≡◌, ◌≤◌, length, drop}
use Rattle.node_lock.specs.Audits.{node_at, AreRightBefore}
use Rattle.node_lock.specs.inside.Walks.{receipts_of, IsRest}
use Rattle.node_lock.proofs.audits.check_all_places.Given as goal

abbrev pub invariant-loop-place : goal.invariant-loop-place
invariant-loop-place l = record {
  done : l.done ≤ length l.sorted;
  right : AreRightBefore l.node l.receipts l.place;
  rest : IsRest l.receipts l.place (receipts_of (drop l.done l.sorted));
  replay : l.replay ≡ node_at l.node l.place;
}
