use Rattle.lab_scripts.proofs.StepLemmas.{refused_leaves, OnOk-from}
use Rattle.lab_scripts.proofs.lab.taken_text.Goals as goal

pub returns-in_ok-unless_memory-in-Err-clause-after : goal.returns-in_ok-unless_memory-in-Err-clause-after
returns-in_ok-unless_memory-in-Err-clause-after c =
    OnOk-from c.format.result
    (refused_leaves c.args.world.now c.step.new.self c.args.step c.in-Err.fault c.in-Err.ensures.due
    c.in_ok-unless_memory-in-Err.ensures.other c.in-Err.ensures.err)
