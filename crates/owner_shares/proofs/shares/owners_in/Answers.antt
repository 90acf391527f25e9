use Rattle.std.proofs.Common.{◌≡◌, ◌<◌, ℕ, Option, sym, ap, ◌∙◌, subst, arith}
use Rattle.std.specs.Prelude.{IfSome}
use Rattle.std.specs.FinSet as sets
use Rattle.std.specs.FinSet.{len-empty}
use Rattle.std.specs.Ordering.{nat_cmp}
use Rattle.quorum_sizes.specs.NodeSets.{Nodes, AreNodes, nodes_among}
use Rattle.quorum_sizes.specs.Sizes.{Counts}
use Rattle.owner_shares.proofs.Owners.{owners_to, owned, not_owned, none_owned, one_more_node, none_are_nodes, all_among}
use Rattle.owner_shares.proofs.shares.owners_in.Goals as goal
use Rattle.owner_shares.proofs.shares.owners_in.Goals.{in-Some, in_default}

pub loop-role-init : goal.loop-role-init
loop-role-init c =
    record {
      owners = c.new-owners.ensures ∙ none_owned c.args.roles.now;
      nodes = subst (AreNodes c.args.roles.now.sizes) (sym c.new-owners.ensures) (none_are_nodes c.args.roles.now.sizes);
      few = omega (arith, ap sets.len c.new-owners.ensures, len-empty nat_cmp);
    }

pub loop-role-preserved : goal.loop-role-preserved
loop-role-preserved c =
    let sizes : Counts = c.args.roles.now.sizes in
    let was = c.loop-role.invariant in
    elim c.match-owner.branch [
      | in-Some w ↦
          let owner : ℕ = w.in-Some.owner in
          let found = sym c.owner.ensures.value ∙ w.in-Some.is in
          let within : owner < sizes.nodes =
          subst (λ (o : Option ℕ). IfSome o (λ x. x < sizes.nodes)) w.in-Some.is c.owner.ensures.node in
          let now : c.match-owner.owners ≡ sets.insert c.loop-role.owners owner =
          w.owners-is ∙ w.insert.ensures.set in
          record {
            owners = now ∙ ap (λ (names : Nodes). sets.insert names owner) was.owners
                ∙ owned c.args.roles.now c.loop-role.role owner found;
            nodes = subst (AreNodes sizes) (sym now) (one_more_node sizes c.loop-role.owners owner was.nodes within);
            few = omega (arith, w.insert.ensures.most, ap sets.len w.owners-is);
          }
      | in_default w ↦
          record {
            owners = w.owners-is ∙ was.owners
                ∙ not_owned c.args.roles.now c.loop-role.role (sym c.owner.ensures.value ∙ w.in_default.is);
            nodes = subst (AreNodes sizes) (sym w.owners-is) was.nodes;
            few = omega (arith, was.few, ap sets.len w.owners-is);
          }
    ]

pub returns : goal.returns
returns c =
    let last : c.loop-role.role ≡ 65536 = omega arith in
    let all : c.loop-role.owners ≡ owners_to c.args.roles.now 65536 =
    c.loop-role.invariant.owners ∙ ap (owners_to c.args.roles.now) last in
    record {
      owners = all_among c.args.roles.now.sizes c.loop-role.owners c.loop-role.invariant.nodes
          ∙ ap (nodes_among c.args.roles.now.sizes) all;
      few = c.loop-role.invariant.few;
    }
