use Rattle.std.proofs.Common.{◌≡◌, ◌<◌, ◌≤◌, ⊎_elim, Some, not, ap, sym, ◌∙◌, arith}
use Rattle.std.proofs.lemmas.Bool.{cases_lt}
use Rattle.link_frames.specs.declared.frames.packet.Message.{Message}
use Rattle.bracha_instance.specs.Broadcast.{is_for}
use Rattle.role_node.specs.Access.{sent_at}
use Rattle.byz_world.specs.Runs.{of_kind}
use Rattle.byz_world.specs.Worlds.{node_due}
use Rattle.byz_world.proofs.Telling.{foreign_is_forged, forged_is}
use Rattle.byz_world.proofs.world.World.is_forged.Goals as goal

pub returns-then-not-has-clause-forged : goal.returns-then-not-has-clause-forged
returns-then-not-has-clause-forged c =
    let w = c.args.self.now in
    let p = c.args.packet.now in
    let here : Some c.in-Some.node.now ≡ node_due w p.from = c.in-Some.ensures.value ∙ ap (node_due w) c.from.ensures in
    let owner = ap (λ (m : Message). m.owner) c.message-message.ensures.value in
    let sizes = ap (λ s. s.nodes) c.sizes.ensures.value in
    let past : w.config.roles.sizes.nodes ≤ p.owner =
    ⊎_elim
    (λ (h : c.message-message.result.owner < c.sizes.result.nodes). let clash = c.if-not-has.ensures.1 h in absurd cc)
    (λ (h : c.sizes.result.nodes ≤ c.message-message.result.owner). omega (arith, owner, sizes, h))
    (cases_lt c.message-message.result.owner c.sizes.result.nodes) in
    ap not c.if-not-has.true ∙ sym (foreign_is_forged w p c.in-Some.node.now c.node.ensures.run here past)

pub returns-else-not-has-clause-forged : goal.returns-else-not-has-clause-forged
returns-else-not-has-clause-forged c =
    let w = c.args.self.now in
    let p = c.args.packet.now in
    let node = c.in-Some.node.now in
    let here : Some node ≡ node_due w p.from = c.in-Some.ensures.value ∙ ap (node_due w) c.from.ensures in
    ap not
    (c.has_sent.ensures
    ∙ ap (λ (m : Message). is_for m.command (of_kind m.kind (sent_at node.config.roles.sizes node.me node.history
    m.owner m.place)))
    c.message-message.ensures.value)
    ∙ sym (forged_is w p node here)
