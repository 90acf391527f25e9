use Rattle.lab_scripts.specs.inside.Kept.{lab_in}
use Rattle.lab_scripts.proofs.SettleLemmas.{settled_lab, settled_count}
use Rattle.lab_scripts.proofs.lab.Lab.settle.Goals as goal

pub returns-clause-count : goal.returns-clause-count
returns-clause-count c =
    settled_count (lab_in c.args.self.now) c.in_ok-count.ensures.after c.in_ok-count.ensures.count

pub returns-clause-after : goal.returns-clause-after
returns-clause-after c =
    settled_lab (lab_in c.args.self.now) _ c.sent_len.result c.in_ok-count.ensures.after c.sent_len.ensures.value
    c.mark_below.ensures
