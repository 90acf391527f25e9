use Rattle.std.proofs.Common.{◌+◌, ◌<◌, length, map, take, sym, subst, arith}
use Rattle.std.specs.List.{AllZip}
use Rattle.serde_json.specs.View.{view}
use Rattle.cluster_hosts.specs.Hosts.{IsHost}
use Rattle.cluster_hosts.proofs.HostLemmas.{all_more, none_at}
use Rattle.cluster_hosts.proofs.hosts.listed.Goals as goal

pub returns-in-None : goal.returns-in-None
returns-in-None c =
    let within : c.loop-item.item-index < length c.args.items.now = omega arith in
    none_at IsHost view c.args.items.now c.loop-item.item-index c.item-item.result within c.item-item.is
    c.in-None.ensures

pub loop-item-preserved : goal.loop-item-preserved
loop-item-preserved c =
    let within : c.loop-item.item-index < length c.args.items.now = omega arith in
    let more = all_more IsHost view c.args.items.now c.loop-item.item-index c.item-item.result
    c.loop-item.hosts.items within c.item-item.is c.in-Some.host c.loop-item.invariant c.in-Some.ensures in
    subst (AllZip IsHost (map view (take (c.loop-item.item-index + 1) c.args.items.now)))
    (sym c.in_ok-push-in-Some.ensures.items) more
