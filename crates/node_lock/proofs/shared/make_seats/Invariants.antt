use Rattle.std.specs.Prelude.{◌≡◌, ◌+◌, vec_len}
use Rattle.node_lock.specs.Seats.{new_seats}
use Rattle.node_lock.proofs.shared.make_seats.Given as goal

abbrev pub invariant-loop-number : goal.invariant-loop-number
invariant-loop-number g l = record {
  parts : l.all.parts + l.number ≡ l.seats;
  amount : l.all.amount ≡ 0;
  made : l.made.items ≡ new_seats l.number;
  count : vec_len l.made ≡ l.number;
}
