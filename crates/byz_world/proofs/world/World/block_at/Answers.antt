use Rattle.std.proofs.Common.{◌+◌, ◌*◌, ◌≤◌, min, ◌/◌, ap, ◌∙◌, subst, arith}
use Rattle.byz_world.specs.Worlds.{WorldValue}
use Rattle.byz_world.proofs.BlockWorld.{block_starts}
use Rattle.byz_world.proofs.Telling.{nodes_are}
use Rattle.byz_world.proofs.world.World.block_at.Goals as goal

pub returns-clause-block : goal.returns-clause-block
returns-clause-block c some =
    let w = c.args.self.now in
    block_starts w c.args.packet c.args.most c.min-count.result c.from-nodes.result c.sent_len-pooled.result
    (nodes_are w.config w.liars w.run c.sizes.ensures.run)
    (c.from-nodes.ensures ∙ c.n.ensures.value ∙ ap (λ s. s.nodes) c.sizes.ensures.value)
    c.sent_len-pooled.ensures.value
    (omega (arith, c.requires, c.sent_len-pooled.ensures.value)) c.if-packet-nodes-ne0.false
    (c.min-count.ensures ∙ ap (λ x. min (x / c.from-nodes.result) 64) c.min.ensures)
    (subst (λ (v : WorldValue). c.sent_len-pooled.result +
    (c.min-count.result * c.from-nodes.result + 1) * c.from-nodes.result
    ≤ v.config.limit) c.self.view_is (omega (arith, c.if-limit-pooled.false, c.limit.ensures)))
