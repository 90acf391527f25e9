use Rattle.std.proofs.Common.{◌≡◌, false, take}
use Rattle.sorted_pairs.specs.Lists.{is_among}
use Rattle.sorted_pairs.proofs.sorted.is_one_of.Given as goal

abbrev pub invariant-loop-one : goal.invariant-loop-one
invariant-loop-one g l = is_among g.T.Ord.cmp (take l.one-index l.items) l.item ≡ false
