use Rattle.std.proofs.Common.{◌<◌, ◌≤◌, length, drop}
use Rattle.std.specs.Prelude.{All}
use Rattle.frame_queues.specs.Waiting.{order_of}
use Rattle.frame_queues.proofs.stream_packets.room_for.Given as goal

abbrev pub invariant-loop-at : goal.invariant-loop-at
invariant-loop-at l =
    record {
      within : l.at ≤ length l.packets.items;
      behind : All (λ p. l.order < order_of p) (drop l.at l.packets.items);
    }

abbrev pub decreases-loop-at : goal.decreases-loop-at
decreases-loop-at l = l.at
