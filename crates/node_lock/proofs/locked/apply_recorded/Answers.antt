use Rattle.std.proofs.Common.{◌≡◌, ◌∙◌, Ok, ap}
use Rattle.role_node.specs.Answers.{is_recorded}
use Rattle.role_node.specs.Nodes.{due_at}
use Rattle.role_node.proofs.Exported.{counted_is_due, counted_is_recorded}
use Rattle.node_lock.proofs.locked.apply_recorded.Goals as goal

is_due : (c : goal.After-reply) → due_at c.args.node.now c.args.event ≡ Ok c.reply.result
is_due c =
    let n = c.args.node.now in
    counted_is_due n.config n.me n.history c.args.event c.reply.result c.requires
    (c.reply.ensures ∙ c.in_ok-entry.ensures.reply)

pub returns-clause-recorded : goal.returns-clause-recorded
returns-clause-recorded c =
    let n = c.args.node.now in
    ap is_recorded (is_due c)
    ∙ counted_is_recorded n.config.roles n.me n.history c.args.event c.reply.result
    (c.reply.ensures ∙ c.in_ok-entry.ensures.reply)

pub returns-clause-reply : goal.returns-clause-reply
returns-clause-reply c = is_due c
