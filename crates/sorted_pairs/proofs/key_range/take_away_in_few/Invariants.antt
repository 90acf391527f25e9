use Rattle.std.proofs.Common.{not}
use Rattle.std.specs.Ordering.{eq_by_cmp, nat_cmp}
use Rattle.sorted_pairs.proofs.KeepLemmas.{IsKeptBetween}
use Rattle.sorted_pairs.proofs.key_range.take_away_in_few.Given as goal

abbrev pub invariant-loop-place : goal.invariant-loop-place
invariant-loop-place g l =
    IsKeptBetween (λ p. not (eq_by_cmp nat_cmp p.0 l.first)) l.start l.place l.fn.blocks.items l.blocks.items

abbrev pub decreases-loop-place : goal.decreases-loop-place
decreases-loop-place g l = l.place
