use Rattle.sorted_pairs.proofs.SplitLemmas.{IsRoomyFrom}
use Rattle.sorted_pairs.proofs.blocks.split_long.Given as goal

abbrev pub invariant-loop-place : goal.invariant-loop-place
invariant-loop-place g l = IsRoomyFrom l.least l.place l.fn.blocks.items l.blocks.items

abbrev pub decreases-loop-place : goal.decreases-loop-place
decreases-loop-place g l = l.place
