use Rattle.std.proofs.Common.{◌∙◌, ap}
use Rattle.std.specs.FinSet as sets
use Rattle.quorum_sizes.specs.NodeSets.{nodes_among}
use Rattle.quorum_sizes.proofs.NodeMasks.{len-among}
use Rattle.quorum_sizes.proofs.node_set.NodeSet.count_among.Goals as goal

pub returns : goal.returns
returns c =
    len-among c.args.sizes.now c.self.inside.word c.n-beyond.result c.n-beyond.ensures.sizes.0 c.n-beyond.ensures.value
    ∙ ap (λ names. sets.len (nodes_among c.args.sizes.now names)) c.self.view_is
