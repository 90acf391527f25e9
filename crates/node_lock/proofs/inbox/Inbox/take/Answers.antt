use Rattle.std.proofs.Common.{◌<◌, arith}
use Rattle.crossbeam_queue.specs.Passes.{view}
use Rattle.node_lock.proofs.InboxMoves.{takes}
use Rattle.node_lock.proofs.inbox.Inbox.take.Goals as goal

pub pop_as-requires-clause-rule : goal.pop_as-requires-clause-rule
pop_as-requires-clause-rule g c =
    let some : 0 < (view c.pass.inside.pass).parts = omega arith in
    (takes _ _ some, λ items views fair at. tt)
