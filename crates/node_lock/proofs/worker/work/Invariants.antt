use Rattle.node_lock.specs.Inboxes.{IsPassTo}
use Rattle.node_lock.proofs.worker.work.Given as goal

abbrev pub invariant-loop : goal.invariant-loop
invariant-loop g l = IsPassTo l.inbox l.pass
