use Rattle.lab_scripts.specs.inside.Kept.{lab_in}
use Rattle.lab_scripts.proofs.FlushLemmas.{gives_one, gives_many}
use Rattle.lab_scripts.proofs.lab.Lab.give_on.Goals as goal

pub returns-then-not-is_none_from-clause-after : goal.returns-then-not-is_none_from-clause-after
returns-then-not-is_none_from-clause-after c =
    gives_one (lab_in c.args.self.now) c.args.packet (lab_in c.give.new.self) c.requires.next c.in_ok-give.ensures

pub returns-clause-after : goal.returns-clause-after
returns-clause-after c =
    gives_many (lab_in c.args.self.now) c.args.packet c.in_ok-count.count _ c.requires.next
    (c.is_none_from.ensures c.if-not-is_none_from.false) c.in_ok-count.ensures.pooled c.in_ok-count.ensures.after
    c.in_ok-mark_many.ensures
