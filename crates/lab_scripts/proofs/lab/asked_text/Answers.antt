use Rattle.std.proofs.Common.{string_bytes}
use Rattle.lab_scripts.proofs.StepLemmas.{asked_ok}
use Rattle.lab_scripts.proofs.lab.asked_text.Goals as goal

pub returns-in-Ok-clause-text : goal.returns-in-Ok-clause-text
returns-in-Ok-clause-text c =
    asked_ok string_bytes c.args.world.now c.args.node c.args.question c.in-Ok.answer c.answer_text.result
    c.in-Ok.ensures.due c.in-Ok.ensures.answer c.in-Ok.ensures.within c.answer_text.ensures
