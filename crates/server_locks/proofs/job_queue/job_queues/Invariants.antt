use Rattle.std.specs.Prelude.{◌≡◌, ◌+◌, All, length, vec_len}
use Rattle.node_lock.specs.Inboxes.{IsNewPassTo}
use Rattle.server_locks.proofs.job_queue.job_queues.Given as goal

abbrev pub invariant-loop-pass : goal.invariant-loop-pass
invariant-loop-pass l =
    All (IsNewPassTo l.inbox) l.passes.items × (vec_len l.made + vec_len l.passes ≡ length l.initial.passes.items)

abbrev pub decreases-loop-pass : goal.decreases-loop-pass
decreases-loop-pass l = vec_len l.passes
