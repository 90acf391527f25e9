use Rattle.cluster_text.proofs.SetupLemmas.{IsChecked}
use Rattle.cluster_text.proofs.cluster.check_roles.Given as goal

abbrev pub invariant-loop-index : goal.invariant-loop-index
invariant-loop-index l = IsChecked l.sizes l.items l.index
