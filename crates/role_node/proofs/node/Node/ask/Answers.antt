use Rattle.std.proofs.Common.{Ok}
use Rattle.role_node.specs.inside.Kept.{events}
use Rattle.role_node.proofs.KeptLemmas.{answered_after}
use Rattle.role_node.proofs.node.Node.ask.Goals as goal

pub returns-clause-answer : goal.returns-clause-answer
returns-clause-answer c =
    let a = c.self.inside in
    rw (← c.self.view_is)
    (answered_after a.config.roles (events a.entries.items) a.state c.args.question (Ok c.in_ok-answer.answer)
    c.self.invariant.state c.in_ok-answer.ensures.answer)
