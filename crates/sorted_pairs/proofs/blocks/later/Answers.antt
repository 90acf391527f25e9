use Rattle.std.proofs.Common.{drop, ap, ◌∙◌}
use Rattle.std.proofs.lemmas.List.{take_rest}
use Rattle.sorted_pairs.proofs.BlockLemmas.{drop_first}
use Rattle.sorted_pairs.proofs.blocks.later.Goals as goal

pub returns : goal.returns
returns g c =
    take_rest c.args.blocks.now c.min.result ∙ ap (λ k. drop k c.args.blocks.now) c.min.ensures
    ∙ drop_first c.args.blocks.now
