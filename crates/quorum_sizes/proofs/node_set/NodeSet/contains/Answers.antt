use Rattle.std.proofs.Common.{◌∙◌, ap, ◌==◌}
use Rattle.std.proofs.lemmas.Nat.Bits.{shr_and_one}
use Rattle.std.specs.FinSet as sets
use Rattle.quorum_sizes.proofs.NodeMasks.{has_bit-names_in}
use Rattle.quorum_sizes.proofs.node_set.NodeSet.contains.Goals as goal

pub returns : goal.returns
returns c =
    ap (λ b. b == 1) (shr_and_one c.self.inside.word c.index.result)
    ∙ has_bit-names_in c.self.inside.word c.index.result c.index.ensures.bound
    ∙ ap (λ names. sets.contains names c.index.result) c.self.view_is
    ∙ ap (sets.contains c.args.self.now) c.index.ensures.value
