use Rattle.std.proofs.Common.{◌∙◌, sym}
use Rattle.sorted_pairs.proofs.PickLemmas.{some_found}
use Rattle.sorted_pairs.proofs.blocks.have_items.Goals as goal

pub returns-then-not-is_empty : goal.returns-then-not-is_empty
returns-then-not-is_empty g c =
    some_found c.args.blocks.now c.loop-block.block-index c.block-item.result c.loop-block-test.true c.block-item.is
    c.loop-block.invariant (sym c.is_empty.ensures ∙ c.if-not-is_empty.true)
