use Rattle.std.proofs.Common.{◌≡◌}
use Rattle.peer_windows.proofs.EachOwner.{joined_first}
use Rattle.peer_windows.proofs.pairs.Pairs.connected.Given as goal

abbrev pub invariant-loop-owner : goal.invariant-loop-owner
invariant-loop-owner l = l.self ≡ joined_first l.now l.peer l.owner l.initial.self
