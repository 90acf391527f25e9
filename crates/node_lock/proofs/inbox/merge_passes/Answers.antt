use Rattle.node_lock.proofs.InboxMoves.{joins}
use Rattle.node_lock.proofs.inbox.merge_passes.Goals as goal

pub absorb-requires-clause-rule : goal.absorb-requires-clause-rule
absorb-requires-clause-rule c = joins _ _ _ _ c.loop-next.invariant.some
