use Rattle.std.proofs.Common.{length, drop}
use Rattle.std.specs.Ordering.{nat_cmp}
use Rattle.sorted_pairs.proofs.TurnedLemmas.{IsTakenFrom}
use Rattle.sorted_pairs.proofs.key_range.take_away_each.Given as goal

abbrev pub invariant-loop-place : goal.invariant-loop-place
invariant-loop-place g l =
    IsTakenFrom nat_cmp nat_cmp l.place (length l.pairs) (drop l.place l.pairs) l.fn.blocks.items l.blocks.items

abbrev pub decreases-loop-place : goal.decreases-loop-place
decreases-loop-place g l = l.place
