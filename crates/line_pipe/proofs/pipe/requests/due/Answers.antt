use Rattle.std.proofs.Common.{◌≡◌, rules, Err}
use Rattle.role_node.specs.Nodes.{due_at}
use Rattle.line_pipe.proofs.AnswerLemmas.{event_done, event_refused}
use Rattle.line_pipe.proofs.pipe.requests.due.Goals as goal

pub returns-in-Ok-clause-after : goal.returns-in-Ok-clause-after
returns-in-Ok-clause-after c = event_done _ _ _ c.in-Ok.reply c.in-Ok.ensures.due c.in-Ok.ensures.ok

pub returns-in-Err-clause-after : goal.returns-in-Err-clause-after
returns-in-Err-clause-after c =
    let due : due_at c.args.node.now c.args.event ≡ Err c.in-Err.fault = search rules in
    event_refused _ _ _ c.in-Err.fault due c.in-Err.ensures.err
