use Rattle.std.specs.Prelude.{◌≡◌, ◌-◌, length, vec_len}
use Rattle.node_lock.proofs.pool.Pool.run_rounds.Given as goal

abbrev pub invariant-loop-start : goal.invariant-loop-start
invariant-loop-start g l = vec_len l.seats ≡ vec_len l.fn.seats

abbrev pub decreases-loop-start : goal.decreases-loop-start
decreases-loop-start g l = length l.self.calls.now - l.start
