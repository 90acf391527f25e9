use Rattle.std.proofs.Common.{◌≡◌}
use Rattle.std.specs.Prelude.{map}
use Rattle.std.specs.List.{range_with_len}
use Rattle.peer_windows.specs.Owners.{first_probe}
use Rattle.peer_windows.proofs.pairs.first_probes.Given as goal

abbrev pub invariant-loop-peer : goal.invariant-loop-peer
invariant-loop-peer l = l.probes.items ≡ map (first_probe l.now l.nodes l.me) (range_with_len 0 l.peer)
