-- What a shared node that is not closed hands back.
use Rattle.std.specs.Prelude.{List}
use Rattle.node_lock.specs.Seats.{Sitting}
use Rattle.node_lock.specs.declared.shared.CloseFault.{CloseFault}
use Rattle.node_lock.specs.declared.shared.CloseFault.TheVariants.{SeatMissing}

-- the seats
abbrev pub seats_of : {L : Type 0} → CloseFault L → List Sitting
seats_of (SeatMissing node seats) = seats.items
