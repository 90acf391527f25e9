use Rattle.std.proofs.Common.{length, drop, filter}
use Rattle.std.specs.Ordering.{eq_by_cmp, nat_cmp}
use Rattle.sorted_pairs.specs.Blocks.{items_in}
use Rattle.sorted_pairs.proofs.TurnedLemmas.{IsTakenFrom}
use Rattle.sorted_pairs.proofs.key_range.take_away_turned.Given as goal

abbrev pub invariant-loop-place : goal.invariant-loop-place
invariant-loop-place g l =
    IsTakenFrom nat_cmp nat_cmp l.place (length l.range)
    (filter (λ p. eq_by_cmp nat_cmp l.first p.0) (items_in (drop l.place l.range)))
    l.fn.blocks.items l.blocks.items

abbrev pub decreases-loop-place : goal.decreases-loop-place
decreases-loop-place g l = l.place
