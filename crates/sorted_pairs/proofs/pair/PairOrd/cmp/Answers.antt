use Rattle.std.proofs.Common.{◌∙◌}
use Rattle.sorted_pairs.specs.Pairs.{number_cmp}
use Rattle.sorted_pairs.proofs.NumberLemmas.{parts_cmp}
use Rattle.sorted_pairs.proofs.pair.PairOrd.cmp.Goals as goal

pub returns : goal.returns
returns g c =
    c.cmp.ensures ∙ parts_cmp c.self.inside.number c.other.inside.number g.row.LIMIT c.self.invariant
    ∙ (λ i. number_cmp (c.self.view_is i) (c.other.view_is i))
