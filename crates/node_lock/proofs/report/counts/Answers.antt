use Rattle.std.proofs.Common.{ℕ, ◌++◌, [], ◌∷◌, List, sym, ap, ◌∙◌, arith}
use Rattle.std.proofs.lemmas.List.FromFn.{map-range_with_len_more}
use Rattle.node_lock.specs.Pools.{recorded_by}
use Rattle.node_lock.proofs.report.counts.Goals as goal

pub loop-worker-preserved : goal.loop-worker-preserved
loop-worker-preserved c =
    c.in_ok-push.ensures.items ∙ ap (λ (n : ℕ). c.loop-worker.counts.items ++ n ∷ []) c.count_by_worker.ensures
    ∙ ap (λ (ns : List ℕ). ns ++ recorded_by c.args.receipts.now c.loop-worker.worker ∷ []) c.loop-worker.invariant
    ∙ sym (map-range_with_len_more (recorded_by c.args.receipts.now) 0 c.loop-worker.worker c.loop-worker.worker
    (omega arith))
