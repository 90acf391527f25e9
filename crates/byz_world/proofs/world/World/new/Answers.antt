use Rattle.std.proofs.Common.{◌≡◌, ◌≤◌, ap, ◌∙◌, subst, arith}
use Rattle.std.specs.FinSet as sets
use Rattle.quorum_sizes.specs.Sizes.{AreSizes}
use Rattle.quorum_sizes.specs.NodeSets.{nodes_among}
use Rattle.byz_world.specs.LabKeys.{rings_due}
use Rattle.byz_world.proofs.Making.{new_is_world, no_run}
use Rattle.byz_world.proofs.world.World.new.Goals as goal

pub invariant_of-result : goal.invariant_of-result
invariant_of-result c =
    let same : c.sizes-sizes.result ≡ c.args.config.roles.sizes = c.sizes-sizes.ensures.value
    ∙ ap (λ roles. roles.sizes) c.roles.ensures.value in
    let sizes : AreSizes c.args.config.roles.sizes = subst AreSizes same c.f.ensures.sizes in
    let counted : c.count_among.result ≡ sets.len (nodes_among c.args.config.roles.sizes c.args.liars) =
    c.count_among.ensures ∙ ap (λ s. sets.len (nodes_among s c.args.liars)) same in
    let most : c.from.result ≡ c.args.config.roles.sizes.liars = c.from.ensures ∙ c.f.ensures.value
    ∙ ap (λ s. s.liars) same in
    let few : sets.len (nodes_among c.args.config.roles.sizes c.args.liars) ≤ c.args.config.roles.sizes.liars =
    omega (arith, counted, most, c.if-count_among-from.false) in
    record {
      world = rw (c.new.ensures.items, c.new-2.ensures.items)
          (new_is_world c.args.config c.args.liars c.in_ok-members.members.items sizes few c.roles.ensures.limit
          c.in_ok-members.ensures);
      keys = c.in_ok-keys.ensures ∙ ap (λ s. rings_due s c.args.liars) same;
      cursor = c.new-3.ensures ∙ c.n.ensures.value ∙ ap (λ s. s.nodes) same;
    }

pub returns-clause-ok : goal.returns-clause-ok
returns-clause-ok c =
    λ i. record {
      config = c.args.config;
      liars = c.args.liars;
      run = no_run c.in_ok-members.members.items c.new.result.items c.new.ensures.items i;
    }

pub returns-clause-run : goal.returns-clause-run
returns-clause-run c = (invariant_of-result c).world.cluster
