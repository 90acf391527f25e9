use Rattle.std.proofs.Common.{◌<◌, ap, ◌∙◌, arith}
use Rattle.byz_world.proofs.BlockWorld.{block_pooled}
use Rattle.byz_world.proofs.world.World.give_some.Goals as goal

pub returns-then-given-clause-pooled : goal.returns-then-given-clause-pooled
returns-then-given-clause-pooled c =
    let some : 0 < c.block_at-count.result = omega (arith, c.if-count-eq0.false) in
    block_pooled c.args.self.now c.args.first c.args.most c.block_at-count.result c.from-nodes.result
    (c.from-nodes.ensures ∙ c.n.ensures.value ∙ ap (λ s. s.nodes) c.sizes.ensures.value)
    (c.block_at-count.ensures.block some)
