use Rattle.node_lock.specs.Inboxes.{IsPassTo}
use Rattle.node_lock.proofs.pool.fill_inbox.Given as goal

abbrev pub invariant-loop-number : goal.invariant-loop-number
invariant-loop-number g l = IsPassTo l.inbox l.pass
