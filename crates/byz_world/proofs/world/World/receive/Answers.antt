use Rattle.std.proofs.Common.{Some, ap, sym, ◌∙◌}
use Rattle.std.proofs.lemmas.Result.{err_from_is_err_and}
use Rattle.byz_world.proofs.Arriving.{opened_nowhere, opened_badly}
use Rattle.byz_world.proofs.world.World.receive.Goals as goal

pub returns-in_err-opened-in-Some-clause-due : goal.returns-in_err-opened-in-Some-clause-due
returns-in_err-opened-in-Some-clause-due c =
    let p = err_from_is_err_and c.from_residual.result c.from_residual.ensures.1 in
    rw (p.1, p.2)
    (opened_badly c.args.self.now c.args.to c.args.bytes.now _
    (sym c.in-Some.ensures.opened ∙ ap Some c.in_err-opened-in-Some.was))

pub returns-in-None-clause-due : goal.returns-in-None-clause-due
returns-in-None-clause-due c = opened_nowhere c.args.self.now c.args.to c.args.bytes.now (sym c.in-None.ensures.opened)
