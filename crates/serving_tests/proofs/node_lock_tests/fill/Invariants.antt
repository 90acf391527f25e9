use Rattle.node_lock.specs.Inboxes.{IsPassTo}
use Rattle.serving_tests.proofs.node_lock_tests.fill.Given as goal

abbrev pub invariant-loop-number : goal.invariant-loop-number
invariant-loop-number g l = IsPassTo l.inbox l.pass
