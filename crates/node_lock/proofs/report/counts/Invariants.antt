use Rattle.std.specs.Prelude.{◌≡◌}
use Rattle.node_lock.specs.Pools.{recorded_counts}
use Rattle.node_lock.proofs.report.counts.Given as goal

abbrev pub invariant-loop-worker : goal.invariant-loop-worker
invariant-loop-worker l = l.counts.items ≡ recorded_counts l.receipts l.worker
