use Rattle.std.proofs.Common.{ℕ, ◌<◌, ◌≤◌, length}
use Rattle.frame_queues.specs.Parking.{parked_in}
use Rattle.frame_queues.proofs.parked_packets.fullest.Given as goal

abbrev pub invariant-loop-owner : goal.invariant-loop-owner
invariant-loop-owner l =
    record {
      there : l.most < l.owner;
      most : (other : ℕ) → other < l.owner →
          length (parked_in l.streams other) ≤ length (parked_in l.streams l.most);
      first : (other : ℕ) → other < l.most →
          length (parked_in l.streams other) < length (parked_in l.streams l.most);
    }
