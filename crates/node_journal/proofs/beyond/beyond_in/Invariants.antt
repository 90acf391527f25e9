use Rattle.std.proofs.Common.{◌<◌, ◌≤◌, ℕ}
use Rattle.owner_shares.specs.Shares.{share}
use Rattle.node_journal.specs.Sights.{reach_of}
use Rattle.node_journal.proofs.beyond.beyond_in.Given as goal

abbrev pub invariant-loop-index : goal.invariant-loop-index
invariant-loop-index l =
    (owner : ℕ) → owner < l.index → reach_of l.node owner ≤ share l.node.config.roles owner
