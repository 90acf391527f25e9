use Rattle.std.specs.Prelude.{◌≡◌, ◌++◌, ◌-◌, ◌^◌, length, min, take}
use Rattle.server_locks.specs.Jobs.{own_jobs}
use Rattle.server_locks.proofs.job_queue.JobQueue.put_own.Given as goal

abbrev pub invariant-loop-message : goal.invariant-loop-message
invariant-loop-message g l =
    (l.self.pass.put ≡ l.initial.self.pass.put ++ own_jobs l.number l.me (take l.message-index l.messages))
    × (l.count ≡ min (length (own_jobs l.number l.me (take l.message-index l.messages))) (2 ^ 32 - 1))
