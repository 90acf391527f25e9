use Rattle.std.proofs.Common.{◌<◌, ◌∙◌, ap, arith, length}
use Rattle.lab_scripts.specs.Labs.{with_number}
use Rattle.lab_scripts.proofs.FlagLemmas.{flagged-set}
use Rattle.lab_scripts.proofs.given.set_flag.Goals as goal

pub returns-clause-set : goal.returns-clause-set
returns-clause-set c =
    let within : c.args.number < length c.pad.new.flags.items = omega (arith, c.in_ok-pad.ensures.many) in
    flagged-set c.pad.new.flags.items c.args.number within
    ∙ ap (λ given. with_number given c.args.number) c.pad.ensures.same
