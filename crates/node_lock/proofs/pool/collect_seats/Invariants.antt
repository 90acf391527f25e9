use Rattle.std.specs.Prelude.{◌≡◌, ◌+◌, ◌≤◌, vec_len}
use Rattle.std.specs.Vec.{vec_capacity}
use Rattle.node_lock.proofs.pool.collect_seats.Given as goal

abbrev pub invariant-loop-one : goal.invariant-loop-one
invariant-loop-one g l = record {
  count : vec_len l.seats + vec_len l.results ≡ vec_len l.fn.results;
  room : vec_len l.fn.results ≤ vec_capacity l.seats;
}

abbrev pub decreases-loop-one : goal.decreases-loop-one
decreases-loop-one g l = vec_len l.results
