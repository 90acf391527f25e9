use Rattle.std.proofs.Common.{◌≡◌, map}
use Rattle.std.specs.List.{range_with_len}
use Rattle.owner_shares.specs.Shares.{share_in}
use Rattle.operator_lines.proofs.standing.places_of.Given as goal

abbrev pub invariant-loop-index : goal.invariant-loop-index
invariant-loop-index l = l.places.items ≡ map (share_in l.shares) (range_with_len 0 l.index)
