use Rattle.std.proofs.Common.{◌≡◌, true, false, not, take}
use Rattle.std.specs.Prelude.{All}
use Rattle.std.specs.Ordering.{eq_by_cmp, nat_cmp}
use Rattle.sorted_pairs.proofs.sorted.may_have_second.Given as goal

abbrev pub invariant-loop-pair : goal.invariant-loop-pair
invariant-loop-pair g l =
    l.found ≡ false → All (λ p. not (eq_by_cmp nat_cmp p.1 l.second) ≡ true) (take l.pair-index l.pairs)
