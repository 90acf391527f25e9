use Rattle.std.proofs.Common.{◌<◌, arith}
use Rattle.crossbeam_queue.specs.Passes.{view}
use Rattle.node_lock.proofs.InboxMoves.{puts}
use Rattle.node_lock.proofs.inbox.Inbox.put.Goals as goal

pub push_as-requires-clause-rule : goal.push_as-requires-clause-rule
push_as-requires-clause-rule g c =
    let some : 0 < (view c.pass.inside.pass).parts = omega arith in
    (puts _ _ _ _ some, λ items views fair at. tt)
