use Rattle.std.proofs.Common.{◌≡◌}
use Rattle.std.specs.Net.Socket.{socket_ip, socket_port}
use Rattle.cluster_hosts.proofs.HostLemmas.{mapped_more}
use Rattle.cluster_hosts.proofs.hosts.Given.addresses.Goals as goal

pub loop-index-preserved : goal.loop-index-preserved
loop-index-preserved c = record {
  ips = rw c.in_ok-push.ensures.items
      (mapped_more socket_ip _ _ _ _ c.loop-index.invariant.ips c.address.ensures.0);
  ports = rw c.in_ok-push.ensures.items
      (mapped_more socket_port _ _ _ _ c.loop-index.invariant.ports c.address.ensures.1);
}
