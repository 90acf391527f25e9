use Rattle.std.proofs.Common.{◌∙◌, refl}
use Rattle.peer_windows.proofs.Noting.{level_told}
use Rattle.peer_windows.proofs.note.level_in.Goals as goal

pub returns-then-has-2-clause-level : goal.returns-then-has-2-clause-level
returns-then-has-2-clause-level g c =
    let h = c.args.locked.now in
    c.ok.ensures.value
    ∙ level_told h c.args.seat.now c.args.owner c.args.peer c.level_of.result
    (c.if-has.ensures.0 refl) (c.if-has-2.ensures.0 refl)
    c.level_of.ensures.level c.level_of.ensures.fits c.level_of.ensures.fault
