use Rattle.std.proofs.Common.{◌≡◌, drop}
use Rattle.cluster_text.specs.Setups.{table_of}
use Rattle.cluster_text.proofs.SetupLemmas.{pairs}
use Rattle.cluster_text.proofs.cluster.roles_of.Given as goal

abbrev pub invariant-loop-item : goal.invariant-loop-item
invariant-loop-item l =
    (table_of l.initial.roles (pairs l.items) ≡ table_of l.roles (pairs (drop l.item-index l.items)))
    × (l.roles.sizes ≡ l.initial.roles.sizes)
