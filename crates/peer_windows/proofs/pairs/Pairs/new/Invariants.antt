use Rattle.std.proofs.Common.{◌≡◌, replicate}
use Rattle.peer_windows.specs.Pairs.{new_pair}
use Rattle.peer_windows.proofs.EachOwner.{begun_first}
use Rattle.peer_windows.proofs.pairs.Pairs.new.Given as goal

abbrev pub invariant-loop-owner : goal.invariant-loop-owner
invariant-loop-owner l = l.pairs.items ≡ replicate l._owner (replicate l.nodes new_pair)

abbrev pub invariant-loop-owner-2 : goal.invariant-loop-owner-2
invariant-loop-owner-2 l = l.made ≡ begun_first l.now l.me l.owner l.initial.made
