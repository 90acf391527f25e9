use Rattle.std.proofs.Common.{◌<◌, ◌-◌, ◌∙◌, length, sym, ap, arith}
use Rattle.std.proofs.lemmas.List.{get_or_read}
use Rattle.frame_queues.specs.Waiting.{order_of}
use Rattle.frame_queues.proofs.Orders.{all_before}
use Rattle.frame_queues.proofs.stream_packets.room_for.Goals as goal

pub returns-then-other-order-clause-none : goal.returns-then-other-order-clause-none
returns-then-other-order-clause-none c =
    let within : c.loop-at.at - 1 < length c.args.packets.now.items =
    omega (arith, c.loop-at.invariant.within, c.loop-at-test.true) in (
      c.loop-at.at - 1,
      within,
      λ d. ap order_of (sym (get_or_read c.args.packets.now.items (c.loop-at.at - 1) c.index.result.now within
          c.index.ensures d)) ∙ sym c.order_of-other.ensures ∙ c.if-other-order.true,
    )

pub returns-then-other-order-2-clause-before : goal.returns-then-other-order-2-clause-before
returns-then-other-order-2-clause-before c =
    let within : c.loop-at.at - 1 < length c.args.packets.now.items =
    omega (arith, c.loop-at.invariant.within, c.loop-at-test.true) in
    all_before c.args.packets.now.items (c.loop-at.at - 1) c.loop-at.at c.args.order
    (omega (arith, c.loop-at-test.true)) c.loop-at.invariant.within c.requires
    (λ d. rw (ap order_of (sym (get_or_read c.args.packets.now.items (c.loop-at.at - 1) c.index.result.now within
    c.index.ensures d)) ∙ sym c.order_of-other.ensures) c.if-other-order-2.true)
