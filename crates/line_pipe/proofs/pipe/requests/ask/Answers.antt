use Rattle.std.proofs.Common.{ap, ◌∙◌}
use Rattle.served_node.specs.Answers.{listed}
use Rattle.line_pipe.proofs.AnswerLemmas.{asked-answer}
use Rattle.line_pipe.proofs.pipe.requests.ask.Goals as goal

pub returns-in-Ok-clause-answer : goal.returns-in-Ok-clause-answer
returns-in-Ok-clause-answer c =
    c.listed.ensures.answer ∙ ap (λ at. listed at c.in-Ok.answer) c.events-at.ensures.count
    ∙ asked-answer c.args.node.now c.args.question c.in-Ok.answer c.in-Ok.ensures.due c.in-Ok.ensures.answer
    c.in-Ok.ensures.within
