use Rattle.std.specs.Prelude.{◌≡◌}
use Rattle.server_locks.proofs.job_queue.JobQueue.put_patiently.Given as goal

abbrev pub invariant-loop-turn : goal.invariant-loop-turn
invariant-loop-turn g l = l.self.pass ≡ l.initial.self.pass
