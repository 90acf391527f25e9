use Rattle.std.proofs.Common.{◌≡◌, ◌<◌, Some, min, refl, ap, ◌∙◌, arith}
use Rattle.role_node.specs.Access.{reach_at}
use Rattle.byz_world.proofs.Telling.{agree_is, least_is}
use Rattle.byz_world.proofs.world.World.agree.Goals as goal

pub returns : goal.returns
returns c =
    let w = c.args.self.now in
    let a = c.in-Some-Some.a.now in
    let b = c.in-Some-Some.b.now in
    let in_sizes : c.args.owner < c.sizes.result.nodes = c.if-not-has.ensures.0 refl in
    let within : c.args.owner < w.config.roles.sizes.nodes =
    omega (arith, in_sizes, ap (λ s. s.nodes) c.sizes.ensures.value) in
    let here = c.in-Some-Some.ensures.value in
    let there = c.in-Some-Some.ensures'.value in
    let least : c.min.result ≡ min (reach_at a.config.roles.sizes a.history c.args.owner)
    (reach_at b.config.roles.sizes b.history c.args.owner) =
    c.min.ensures ∙ (λ i. min (c.reach.ensures i) (c.reach-2.ensures i)) in
    record {
      due = ap Some least ∙ agree_is w c.args.i c.args.j c.args.owner a b c.node.ensures.run here there within;
      least = least ∙ least_is w c.args.i c.args.j c.args.owner a b here there;
      run = c.node.ensures.run;
    }
