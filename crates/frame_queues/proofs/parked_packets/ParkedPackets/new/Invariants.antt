use Rattle.std.proofs.Common.{◌≡◌, [], replicate}
use Rattle.frame_queues.proofs.parked_packets.ParkedPackets.new.Given as goal

abbrev pub invariant-loop-owner : goal.invariant-loop-owner
invariant-loop-owner l = l.streams.items ≡ replicate l._owner []
