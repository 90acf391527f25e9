use Rattle.std.proofs.Common.{◌≡◌, [], replicate}
use Rattle.frame_queues.proofs.first_packets.FirstPackets.new.Given as goal

abbrev pub invariant-loop-peer : goal.invariant-loop-peer
invariant-loop-peer l = l.parked.items ≡ replicate l._peer (replicate l.nodes [])
