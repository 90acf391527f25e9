use Rattle.std.proofs.Common.{map, take}
use Rattle.std.specs.List.{AllZip}
use Rattle.serde_json.specs.View.{view}
use Rattle.cluster_hosts.specs.Hosts.{IsHost}
use Rattle.cluster_hosts.proofs.hosts.listed.Given as goal

abbrev pub invariant-loop-item : goal.invariant-loop-item
invariant-loop-item l = AllZip IsHost (map view (take l.item-index l.items)) l.hosts.items
