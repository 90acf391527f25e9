use Rattle.std.proofs.Common.{◌≡◌, length}
use Rattle.std.specs.List.{All}
use Rattle.cluster_hosts.specs.Hosts.{IsThisMachine}
use Rattle.cluster_hosts.proofs.hosts.this_machine.Given as goal

abbrev pub invariant-loop-node : goal.invariant-loop-node
invariant-loop-node l = record { count : length l.hosts.items ≡ l.node; local : All IsThisMachine l.hosts.items }
