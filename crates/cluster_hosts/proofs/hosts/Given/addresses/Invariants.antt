use Rattle.std.proofs.Common.{◌≡◌, map, take}
use Rattle.std.specs.Net.Socket.{socket_ip, socket_port}
use Rattle.cluster_hosts.proofs.hosts.Given.addresses.Given as goal

abbrev pub invariant-loop-index : goal.invariant-loop-index
invariant-loop-index l = record {
  ips : map socket_ip l.made.items ≡ take l.index l.self.hosts;
  ports : map socket_port l.made.items ≡ take l.index l.self.setup.nodes;
}
