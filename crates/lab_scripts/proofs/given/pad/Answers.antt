use Rattle.std.proofs.Common.{arith}
use Rattle.lab_scripts.proofs.FlagLemmas.{flagged-resized}
use Rattle.lab_scripts.proofs.given.pad.Goals as goal

pub returns-in_ok-resize-clause-same : goal.returns-in_ok-resize-clause-same
returns-in_ok-resize-clause-same c =
    flagged-resized c.args.flags.now.items _ _ _ (omega arith) c.in_ok-resize.ensures.items
