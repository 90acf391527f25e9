use Rattle.std.specs.Prelude.{vec_len}
use Rattle.node_lock.proofs.pool.store_receipts.Given as goal

abbrev pub decreases-loop-one : goal.decreases-loop-one
decreases-loop-one l = vec_len l.receipts
