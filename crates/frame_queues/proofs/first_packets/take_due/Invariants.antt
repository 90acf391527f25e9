use Rattle.std.proofs.Common.{◌≡◌, ℕ, ◌<◌, None}
use Rattle.frame_queues.specs.Firsts.{due_of, parked_of}
use Rattle.frame_queues.proofs.first_packets.take_due.Given as goal

abbrev pub invariant-loop-peer : goal.invariant-loop-peer
invariant-loop-peer l =
    record {
      same : l.parked.items ≡ l.initial.parked.items;
      none : (other : ℕ) → other < l.peer → due_of l.fn.due (parked_of l.initial.parked.items other) ≡ None;
    }
