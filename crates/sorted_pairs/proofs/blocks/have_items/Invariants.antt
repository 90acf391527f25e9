use Rattle.std.proofs.Common.{◌≡◌, [], take}
use Rattle.sorted_pairs.specs.Blocks.{items_in}
use Rattle.sorted_pairs.proofs.blocks.have_items.Given as goal

abbrev pub invariant-loop-block : goal.invariant-loop-block
invariant-loop-block g l = items_in (take l.block-index l.blocks) ≡ []
