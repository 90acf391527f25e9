use Rattle.std.specs.Prelude.{◌≡◌, ◌+◌, All, vec_len}
use Rattle.node_lock.specs.Inboxes.{IsPassTo}
use Rattle.node_lock.proofs.pool.pair_seats.Given as goal

abbrev pub invariant-loop-seat : goal.invariant-loop-seat
invariant-loop-seat g l = record {
  passes : All (IsPassTo l.inbox) l.passes.items;
  count : vec_len l.passes ≡ vec_len l.seats;
  worker_seats : All (λ worker_seat. IsPassTo l.inbox worker_seat.pass) l.worker_seats.items;
  made : vec_len l.worker_seats + vec_len l.seats ≡ vec_len l.fn.seats;
}

abbrev pub decreases-loop-seat : goal.decreases-loop-seat
decreases-loop-seat g l = vec_len l.seats
