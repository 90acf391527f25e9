use Rattle.std.proofs.Common.{not}
use Rattle.std.specs.Ordering.{eq_by_cmp, nat_cmp}
use Rattle.sorted_pairs.proofs.PickLemmas.{IsPicked}
use Rattle.sorted_pairs.proofs.blocks.take_away_second.Given as goal

abbrev pub invariant-loop-place : goal.invariant-loop-place
invariant-loop-place g l =
    IsPicked (λ p. not (eq_by_cmp nat_cmp p.1 l.second)) 0 l.place l.fn.blocks.items l.blocks.items

abbrev pub decreases-loop-place : goal.decreases-loop-place
decreases-loop-place g l = l.place
