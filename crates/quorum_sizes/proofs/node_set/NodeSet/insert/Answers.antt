use Rattle.std.proofs.Common.{◌∙◌, ap}
use Rattle.std.specs.FinSet as sets
use Rattle.quorum_sizes.proofs.NodeMasks.{len-most}
use Rattle.quorum_sizes.proofs.node_set.NodeSet.insert.Goals as goal

pub returns-clause-set : goal.returns-clause-set
returns-clause-set c =
    c.with_name-self-inside.ensures ∙ ap (λ names. sets.insert names c.args.name) c.self.view_is

pub returns-clause-most : goal.returns-clause-most
returns-clause-most c = len-most _
