use Rattle.std.specs.Prelude.{◌≡◌, ◌+◌, sum_by, vec_len}
use Rattle.node_lock.specs.Seats.{count_in}
use Rattle.node_lock.proofs.shared.merge_shares.Given as goal

abbrev pub invariant-loop-seat : goal.invariant-loop-seat
invariant-loop-seat g l = record {
  parts : l.all.parts + vec_len l.seats ≡ l.fn.all.parts + vec_len l.fn.seats;
  amount : l.all.amount + sum_by count_in l.seats.items ≡ l.fn.all.amount + sum_by count_in l.fn.seats.items;
}

abbrev pub decreases-loop-seat : goal.decreases-loop-seat
decreases-loop-seat g l = vec_len l.seats
