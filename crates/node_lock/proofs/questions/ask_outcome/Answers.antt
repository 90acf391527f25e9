use Rattle.std.proofs.Common.{refl}
use Rattle.role_node.proofs.Exported.{one_answer}
use Rattle.node_lock.proofs.questions.ask_outcome.Goals as goal

pub returns-in-Ok-clause-ok : goal.returns-in-Ok-clause-ok
returns-in-Ok-clause-ok c =
    let one = one_answer c.args.node.now.config.roles c.args.node.now.history c.args.question c.in-Ok.answer
    c.in-Ok.ensures.answer c.in-Ok.ensures.within in
    rw (c.in-Ok.ensures.due, one) refl
