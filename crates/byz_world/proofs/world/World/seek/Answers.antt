use Rattle.std.proofs.Common.{◌≡◌, ◌/◌, ◌%◌, Some, None, slice_get, ◌∙◌, subst, arith}
use Rattle.std.proofs.lemmas.Grind.{common_steps}
use Rattle.std.proofs.lemmas.Option.{gets}
use Rattle.byz_world.specs.Pools.{messages}
use Rattle.byz_world.specs.Worlds.{WorldValue, IsClusterRunOf}
use Rattle.byz_world.proofs.Telling.{number_in_world, no_number_in_world}
use Rattle.byz_world.proofs.world.World.seek.Goals as goal
use Rattle.byz_world.proofs.world.World.seek.Goals.{in-Some, in-None}

pub returns-clause-value : goal.returns-clause-value
returns-clause-value c =
    let a = c.self.inside in
    let w = c.args.self.now in
    let is : IsClusterRunOf w = subst IsClusterRunOf c.self.view_is c.self.invariant.world.cluster in
    let Kept : WorldValue → Type 0 = λ v. a.sent.items ≡ messages v.config v.run in
    let kept : Kept w = subst Kept c.self.view_is c.self.invariant.world.messages in
    let Counts : WorldValue → Type 0 = λ v. a.cursor.nodes ≡ v.config.roles.sizes.nodes in
    let nodes : Counts w = subst Counts c.self.view_is c.self.invariant.cursor in
    elim c.match-get.branch [
      | in-Some b ↦
          let to : c.unwrap-to.result ≡ c.args.number % a.cursor.nodes = grind (arith, common_steps) in
          let at : slice_get a.sent.items (c.args.number / a.cursor.nodes) ≡ Some b.in-Some.sent.now =
          grind (arith, common_steps, gets) in
          b.result-is ∙ b.new.ensures.value
          ∙ number_in_world w a.sent.items c.args.number a.cursor.nodes c.unwrap-to.result b.in-Some.sent.now
          is kept nodes to at
      | in-None b ↦
          let at : slice_get a.sent.items (c.args.number / a.cursor.nodes) ≡ None = grind (arith, common_steps, gets) in
          b.result-is ∙ no_number_in_world w a.sent.items c.args.number a.cursor.nodes is kept nodes at
    ]
