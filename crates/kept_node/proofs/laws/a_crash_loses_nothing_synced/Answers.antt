use Rattle.std.proofs.Common.{take}
use Rattle.kept_node.proofs.HistoryLemmas.{one_history}
use Rattle.kept_node.proofs.laws.a_crash_loses_nothing_synced.Goals as goal

pub returns : goal.returns
returns c key node least bytes restored sizes front stands = record {
  count = front.count;
  enough = front.enough;
  within = front.within;
  is = one_history key node.config node.me bytes restored (take front.count node.history) sizes stands front.stands;
}
