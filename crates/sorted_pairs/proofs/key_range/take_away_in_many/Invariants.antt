use Rattle.std.proofs.Common.{not}
use Rattle.std.specs.Ordering.{eq_by_cmp, nat_cmp}
use Rattle.sorted_pairs.proofs.PickLemmas.{IsPicked}
use Rattle.sorted_pairs.proofs.key_range.take_away_in_many.Given as goal

abbrev pub invariant-loop-next : goal.invariant-loop-next
invariant-loop-next g l =
    IsPicked (λ p. not (eq_by_cmp nat_cmp p.0 l.first)) l.start l.next l.fn.blocks.items l.blocks.items

abbrev pub decreases-loop-next : goal.decreases-loop-next
decreases-loop-next g l = l.next
