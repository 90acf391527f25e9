use Rattle.std.proofs.Common.{◌∙◌}
use Rattle.sorted_pairs.proofs.SortedLemmas.{found}
use Rattle.sorted_pairs.proofs.sorted.has.Goals as goal

pub returns-else-items-le-QUICKER_ONE_BY_ONE : goal.returns-else-items-le-QUICKER_ONE_BY_ONE
returns-else-items-le-QUICKER_ONE_BY_ONE g c =
    c.is_ok.ensures.value
    ∙ found g.met.T.Ord.total _ _ _ c.requires c.find.ensures.bound c.find.ensures.position
