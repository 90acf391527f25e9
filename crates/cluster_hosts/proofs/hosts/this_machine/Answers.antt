use Rattle.std.proofs.Common.{sym, subst, arith}
use Rattle.std.specs.List.{All}
use Rattle.std.proofs.lemmas.Grind.{common_steps}
use Rattle.std.proofs.lemmas.List.Elements.{All-push}
use Rattle.cluster_hosts.specs.Hosts.{IsThisMachine}
use Rattle.cluster_hosts.proofs.hosts.this_machine.Goals as goal

pub loop-node-preserved : goal.loop-node-preserved
loop-node-preserved c = record {
  count = rw c.in_ok-push.ensures.items (grind (arith, common_steps, c.loop-node.invariant.count));
  local = subst (All IsThisMachine) (sym c.in_ok-push.ensures.items)
      (All-push IsThisMachine c.loop-node.hosts.items _ c.loop-node.invariant.local
      c.new.ensures);
}
