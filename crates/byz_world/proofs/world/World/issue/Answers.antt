use Rattle.std.proofs.Common.{sym, ◌∙◌}
use Rattle.byz_world.proofs.Arriving.{issued_elsewhere, issued_too_much}
use Rattle.byz_world.proofs.world.World.issue.Goals as goal

pub returns-then-not-is_correct-clause-due : goal.returns-then-not-is_correct-clause-due
returns-then-not-is_correct-clause-due c =
    issued_elsewhere c.args.self.now c.args.name c.args.command
    (sym c.is_correct.ensures.value ∙ c.if-not-is_correct.true)

pub returns-then-is_full-clause-due : goal.returns-then-is_full-clause-due
returns-then-is_full-clause-due c =
    issued_too_much c.args.self.now c.args.name c.args.command
    (sym c.is_correct.ensures.value ∙ c.if-not-is_correct.false) (sym c.is_full.ensures ∙ c.if-is_full.true)
