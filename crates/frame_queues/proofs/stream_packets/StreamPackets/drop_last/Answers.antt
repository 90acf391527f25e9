use Rattle.std.proofs.Common.{◌-◌, deque_len}
use Rattle.frame_queues.proofs.Orders.{in_order_take}
use Rattle.frame_queues.proofs.stream_packets.StreamPackets.drop_last.Goals as goal

pub invariant_of-self : goal.invariant_of-self
invariant_of-self c =
    rw c.pop_back.ensures.rest
    (in_order_take (deque_len c.self.inside.packets - 1) c.self.inside.packets.items c.self.invariant)
