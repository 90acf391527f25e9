use Rattle.std.proofs.Common.{◌≡◌, ◌∙◌, sym, subst}
use Rattle.frame_queues.specs.Waiting.{waiting_with}
use Rattle.frame_queues.proofs.Orders.{stays, inserted, in_order_with}
use Rattle.frame_queues.proofs.stream_packets.StreamPackets.put.Goals as goal

pub returns-in_default-clause-ok : goal.returns-in_default-clause-ok
returns-in_default-clause-ok c =
    let there = c.in_default.ensures.none in
    subst (λ xs. xs ≡ waiting_with c.args.packet xs) c.self.view_is
    (sym (stays c.args.packet c.self.inside.packets.items there.0 c.self.invariant there.1
    (λ d. there.2 d ∙ c.order_of.ensures)))

pub invariant_of-self : goal.invariant_of-self
invariant_of-self c = rw c.in_err-insert.ensures.unchanged.0 c.self.invariant

pub invariant_of-self-2 : goal.invariant_of-self-2
invariant_of-self-2 c =
    rw c.in_ok-insert.ensures.items
    (in_order_with c.args.packet c.self.inside.packets.items c.in-Some.at c.self.invariant
    (rw c.order_of.ensures at (c.in-Some.ensures.before)) (rw c.order_of.ensures at (c.in-Some.ensures.behind)))

pub returns-clause-ok : goal.returns-clause-ok
returns-clause-ok c =
    subst (λ xs. c.insert.new.self.items ≡ waiting_with c.args.packet xs) c.self.view_is
    (c.in_ok-insert.ensures.items
    ∙ inserted c.args.packet c.self.inside.packets.items c.in-Some.at
    (rw c.order_of.ensures at (c.in-Some.ensures.before)) (rw c.order_of.ensures at (c.in-Some.ensures.behind)))
