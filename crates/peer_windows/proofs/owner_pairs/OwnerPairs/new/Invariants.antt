use Rattle.std.proofs.Common.{◌≡◌, replicate}
use Rattle.peer_windows.specs.Pairs.{new_pair}
use Rattle.peer_windows.proofs.owner_pairs.OwnerPairs.new.Given as goal

abbrev pub invariant-loop-peer : goal.invariant-loop-peer
invariant-loop-peer l = l.pairs.items ≡ replicate l._peer new_pair
