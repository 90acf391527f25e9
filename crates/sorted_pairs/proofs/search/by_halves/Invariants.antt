use Rattle.sorted_pairs.specs.inside.Searches.{IsSearching}
use Rattle.sorted_pairs.proofs.search.by_halves.Given as goal

abbrev pub invariant-loop-size : goal.invariant-loop-size
invariant-loop-size g l = IsSearching (g.P.Predicate.passes l.test) l.base l.size l.items

abbrev pub decreases-loop-size : goal.decreases-loop-size
decreases-loop-size g l = l.size
