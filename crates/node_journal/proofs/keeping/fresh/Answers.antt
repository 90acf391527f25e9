use Rattle.std.proofs.Common.{◌∙◌, sym, ap}
use Rattle.std.specs.Prelude.{◌++◌, Option, option_to_list}
use Rattle.node_lock.specs.Holds.{Held}
use Rattle.node_lock.specs.Seats.{Sitting}
use Rattle.node_journal.proofs.SeatLemmas.{last_fits}
use Rattle.node_journal.proofs.keeping.fresh.Goals as goal

pub returns-clause-fits : goal.returns-clause-fits
returns-clause-fits g c =
    last_fits c.in_ok-locked.locked c.args.seats c.pop.new.self.items c.in-Some.seat
    (ap (λ (h : Held). h.seats) c.in_ok-locked.ensures.held)
    (sym c.in_ok-locked.ensures.seats ∙ c.pop.ensures.items
    ∙ ap (λ (o : Option Sitting). c.pop.new.self.items ++ option_to_list o) c.in-Some.is)
