use Rattle.std.proofs.Common.{◌≡◌, ◌≤◌}
use Rattle.std.specs.FinSet as sets
use Rattle.quorum_sizes.specs.NodeSets.{AreNodes}
use Rattle.quorum_sizes.specs.Sizes.{most_nodes}
use Rattle.owner_shares.proofs.Owners.{owners_to}
use Rattle.owner_shares.proofs.shares.owners_in.Given as goal

abbrev pub invariant-loop-role : goal.invariant-loop-role
invariant-loop-role l =
    record {
      owners : l.owners ≡ owners_to l.roles l.role;
      nodes : AreNodes l.roles.sizes l.owners;
      few : sets.len l.owners ≤ most_nodes;
    }
