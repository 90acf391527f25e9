use Rattle.std.proofs.Common.{sym, subst}
use Rattle.node_lock.specs.Holds.{Held, Fits, held_after}
use Rattle.node_lock.specs.Seats.{Sitting}
use Rattle.kept_node.proofs.HeldLemmas.{fits_after}
use Rattle.kept_node.proofs.replaying.replay_one.Goals as goal

pub returns-in-Ok-clause-fits : goal.returns-in-Ok-clause-fits
returns-in-Ok-clause-fits g c =
    subst (λ (h : Held). Fits h c.step.new.seat) (sym c.in-Ok.ensures.held)
    (subst (λ (s : Sitting). Fits (held_after c.args.locked.now c.args.seat.now c.args.event) s)
    (sym c.in-Ok.ensures.seat) (fits_after c.args.locked.now c.args.seat.now c.args.event c.requires.fits))
