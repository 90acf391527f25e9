use Rattle.std.proofs.Common.{◌∙◌, ap}
use Rattle.std.specs.FinSet as sets
use Rattle.quorum_sizes.proofs.NodeMasks.{len-names_in}
use Rattle.quorum_sizes.proofs.node_set.NodeSet.len.Goals as goal

pub returns : goal.returns
returns c = len-names_in c.self.inside.word c.self.invariant ∙ ap sets.len c.self.view_is
