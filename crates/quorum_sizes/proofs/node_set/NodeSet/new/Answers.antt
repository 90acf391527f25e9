use Rattle.quorum_sizes.proofs.NodeMasks.{names_in-zero}
use Rattle.quorum_sizes.proofs.node_set.NodeSet.new.Goals as goal

pub returns : goal.returns
returns c = names_in-zero
