use Rattle.std.proofs.Common.{◌∙◌, ap}
use Rattle.std.specs.FinSet as sets
use Rattle.quorum_sizes.specs.inside.NodeWords.{names_in}
use Rattle.quorum_sizes.proofs.NodeMasks.{names_in-with_bit}
use Rattle.quorum_sizes.proofs.node_set.with_name.Goals as goal

pub returns : goal.returns
returns c =
    names_in-with_bit c.args.word c.index.result c.index.ensures.bound
    ∙ ap (sets.insert (names_in c.args.word)) c.index.ensures.value
