use Rattle.std.proofs.Common.{Ok, refl, ap, sym, ◌∙◌}
use Rattle.std.proofs.lemmas.Result.{err_from_is_err_and}
use Rattle.byz_world.proofs.Stepping.{recorded_after, idle_answer, idle_after, refused_answer}
use Rattle.byz_world.proofs.Arriving.{recorded_told}
use Rattle.byz_world.proofs.world.World.answer_event.Goals as goal

pub returns-in_ok-record-in-Counted-clause-due : goal.returns-in_ok-record-in-Counted-clause-due
returns-in_ok-record-in-Counted-clause-due c step at =
    recorded_told c.args.self.now step c.args.name c.args.event.now c.in_ok-record-in-Counted.field-0 at
    (sym c.in_ok-look.ensures.due ∙ ap Ok c.in-Counted.is) c.in_ok-record-in-Counted.ensures.reply

pub returns-in_ok-record-in-Counted-clause-ok : goal.returns-in_ok-record-in-Counted-clause-ok
returns-in_ok-record-in-Counted-clause-ok c step at =
    recorded_after c.args.self.now _ step c.args.name c.args.event.now (Ok c.in_ok-record-in-Counted.field-0) at
    (sym c.in_ok-look.ensures.due ∙ ap Ok c.in-Counted.is) c.in_ok-record-in-Counted.ensures.ok

pub returns-in-Idle-clause-due : goal.returns-in-Idle-clause-due
returns-in-Idle-clause-due c step at =
    idle_answer c.args.self.now step c.args.name c.args.event.now _ at
    (sym c.in_ok-look.ensures.due ∙ ap Ok c.in-Idle.is) refl

pub returns-in-Idle-clause-ok : goal.returns-in-Idle-clause-ok
returns-in-Idle-clause-ok c step at =
    idle_after c.args.self.now step c.args.name c.args.event.now at
    (sym c.in_ok-look.ensures.due ∙ ap Ok c.in-Idle.is)

pub returns-in_err-look-clause-due : goal.returns-in_err-look-clause-due
returns-in_err-look-clause-due c step at =
    let p = err_from_is_err_and c.from_residual.result c.from_residual.ensures.1 in
    rw (p.1, p.2)
    (refused_answer c.args.self.now step c.args.name c.args.event.now _ at (sym c.in_err-look.ensures.due))
