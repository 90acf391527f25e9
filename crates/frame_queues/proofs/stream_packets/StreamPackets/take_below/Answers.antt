use Rattle.std.proofs.Common.{◌≤◌, subst}
use Rattle.std.specs.Prelude.{All, IfSome}
use Rattle.frame_queues.proofs.Orders.{in_order_drop, taken_is_least}
use Rattle.frame_queues.proofs.stream_packets.StreamPackets.take_below.Goals as goal

pub invariant_of-self : goal.invariant_of-self
invariant_of-self c = rw c.pop_front.ensures.rest (in_order_drop 1 c.self.inside.packets.items c.self.invariant)

pub returns-then-place-end-clause-least : goal.returns-then-place-end-clause-least
returns-then-place-end-clause-least c =
    subst (λ xs. IfSome c.pop_front.result (λ p. All (λ q. p.place ≤ q.place) xs)) c.self.view_is
    (taken_is_least c.self.inside.packets.items c.pop_front.new.self.items c.pop_front.result c.pop_front.ensures.items
    c.self.invariant)
