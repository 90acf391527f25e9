use Rattle.std.proofs.Common.{ap, ◌∙◌}
use Rattle.byz_world.specs.LabKeys.{ring_due, ring_in}
use Rattle.byz_world.proofs.Making.{ring_is}
use Rattle.byz_world.proofs.world.World.keys.Goals as goal

pub returns-clause-value : goal.returns-clause-value
returns-clause-value c =
    let a = c.self.inside in
    c.keys_of.ensures
    ∙ ap (λ rings. ring_in rings c.args.name) c.deref.ensures.value
    ∙ ring_is a.config.roles.sizes a.liars a.keys.items c.args.name c.self.invariant.keys
    ∙ ap (λ w. ring_due w.config.roles.sizes w.liars c.args.name) c.self.view_is
