use Rattle.std.proofs.Common.{ap, ◌∙◌}
use Rattle.lab_scripts.specs.inside.Flags.{flagged}
use Rattle.lab_scripts.specs.Labs.{with_all_below}
use Rattle.lab_scripts.proofs.SettleLemmas.{below_max}
use Rattle.lab_scripts.proofs.given.Given.mark_below.Goals as goal

pub returns : goal.returns
returns c =
    let given = flagged c.args.self.now.flags.items in
    ap (with_all_below given) c.max-self.ensures ∙ below_max given c.args.self.now.least c.args.end
