use Rattle.std.specs.Prelude.{◌≡◌, take}
use Rattle.server_locks.specs.Fronts.{all_connected}
use Rattle.server_locks.proofs.front.connect_all.Given as goal

abbrev pub invariant-loop-peer : goal.invariant-loop-peer
invariant-loop-peer l = l.pairs ≡ all_connected l.now (take l.peer-index l.peers) l.initial.pairs
