use Rattle.std.proofs.Common.{ap, sym, ◌∙◌}
use Rattle.byz_world.specs.Worlds.{is_correct_in}
use Rattle.byz_world.proofs.Arriving.{absorbed_due, absorbed_stays, full_refused}
use Rattle.byz_world.proofs.world.World.arrive.Goals as goal

pub returns-then-not-is_correct-clause-due : goal.returns-then-not-is_correct-clause-due
returns-then-not-is_correct-clause-due c step at =
    absorbed_due c.args.self.now step c.args.packet at
    (ap (is_correct_in c.args.self.now) (sym c.to-to.ensures)
    ∙ sym c.is_correct.ensures.value ∙ c.if-not-is_correct.true)

pub returns-then-not-is_correct-clause-ok : goal.returns-then-not-is_correct-clause-ok
returns-then-not-is_correct-clause-ok c step at =
    absorbed_stays c.args.self.now step c.args.packet at
    (ap (is_correct_in c.args.self.now) (sym c.to-to.ensures)
    ∙ sym c.is_correct.ensures.value ∙ c.if-not-is_correct.true)

pub returns-then-is_full-clause-due : goal.returns-then-is_full-clause-due
returns-then-is_full-clause-due c step at =
    full_refused c.args.self.now step c.args.packet at
    (ap (is_correct_in c.args.self.now) (sym c.to-to.ensures)
    ∙ sym c.is_correct.ensures.value ∙ c.if-not-is_correct.false)
    (sym c.is_full.ensures ∙ c.if-is_full.true)
