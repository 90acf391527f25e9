use Rattle.std.proofs.lemmas.Result.{IfOk-weaker}
use Rattle.role_node.proofs.state.State.answer.Goals as goal

pub returns-in-Take-clause-entry : goal.returns-in-Take-clause-entry
returns-in-Take-clause-entry c =
    rw c.in-Take.is (IfOk-weaker c.take.result _ _ (λ entry says. says c.args.me) c.take.ensures.entry)

pub returns-in-Ok-clause-entry : goal.returns-in-Ok-clause-entry
returns-in-Ok-clause-entry c = rw c.in-Client.is (c.in-Ok.ensures.entry c.args.me)

pub want_of_memory-requires : goal.want_of_memory-requires
want_of_memory-requires c =
    let counts = c.requires.counts in
    c.in-Err.ensures.memory c.args.me counts.0 counts.1 counts.2 (rw c.in-Client.is at counts.3)

pub take-requires-clause-reached : goal.take-requires-clause-reached
take-requires-clause-reached c = (c.requires.counts.0, c.requires.counts.1, c.requires.counts.2)
