use Rattle.std.proofs.Common.{◌≡◌, ◌/◌, ◌%◌, Some, None, slice_get, ap, ◌∙◌, subst, arith}
use Rattle.std.proofs.lemmas.Grind.{common_steps}
use Rattle.std.proofs.lemmas.Option.{gets}
use Rattle.byz_world.specs.Pools.{messages}
use Rattle.byz_world.specs.Worlds.{WorldValue}
use Rattle.byz_world.proofs.Telling.{number_in_world, no_number_in_world}
use Rattle.byz_world.proofs.world.World.sent.Goals as goal

pub returns-in-Some-clause-value : goal.returns-in-Some-clause-value
returns-in-Some-clause-value c =
    let w = c.args.self.now in
    let P : WorldValue → Type 0 = λ v. c.self.inside.sent.items ≡ messages v.config v.run in
    let kept : P w = subst P c.self.view_is c.self.invariant.world.messages in
    let nodes : c.from-nodes.result ≡ w.config.roles.sizes.nodes =
    c.from-nodes.ensures ∙ c.n.ensures.value ∙ ap (λ s. s.nodes) c.sizes.ensures.value in
    let to : c.unwrap-to.result ≡ c.args.number % c.from-nodes.result = grind (arith, common_steps) in
    let at : slice_get c.self.inside.sent.items (c.args.number / c.from-nodes.result)
    ≡ Some c.in-Some.field-0.now = grind (arith, common_steps, gets) in
    c.new.ensures.value
    ∙ number_in_world w c.self.inside.sent.items c.args.number c.from-nodes.result c.unwrap-to.result
    c.in-Some.field-0.now
    c.sizes.ensures.run kept nodes to at

pub returns-in-None-clause-value : goal.returns-in-None-clause-value
returns-in-None-clause-value c =
    let w = c.args.self.now in
    let P : WorldValue → Type 0 = λ v. c.self.inside.sent.items ≡ messages v.config v.run in
    let kept : P w = subst P c.self.view_is c.self.invariant.world.messages in
    let nodes : c.from-nodes.result ≡ w.config.roles.sizes.nodes =
    c.from-nodes.ensures ∙ c.n.ensures.value ∙ ap (λ s. s.nodes) c.sizes.ensures.value in
    let at : slice_get c.self.inside.sent.items (c.args.number / c.from-nodes.result)
    ≡ None = grind (arith, common_steps, gets) in
    no_number_in_world w c.self.inside.sent.items c.args.number c.from-nodes.result c.sizes.ensures.run kept nodes at
