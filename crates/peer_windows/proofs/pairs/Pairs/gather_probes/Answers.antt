use Rattle.std.proofs.Common.{◌∙◌}
use Rattle.peer_windows.proofs.Seats.{seat_on}
use Rattle.peer_windows.proofs.Gathering.{gathered_on}
use Rattle.peer_windows.proofs.pairs.Pairs.gather_probes.Goals as goal

pub returns-in_err-gather_probe-clause-seat : goal.returns-in_err-gather_probe-clause-seat
returns-in_err-gather_probe-clause-seat g c =
    let was = c.loop-owner.invariant in
    seat_on c.args.locked.now c.loop-owner.locked c.args.seat.now c.loop-owner.seat c.gather_probe.new.seat was.same
    was.seat c.gather_probe.ensures.seat

pub loop-owner-preserved : goal.loop-owner-preserved
loop-owner-preserved g c =
    let h = c.args.locked.now in
    let l = c.loop-owner.locked in
    let was = c.loop-owner.invariant in
    record {
      same = c.gather_probe.ensures.same ∙ was.same;
      seat = seat_on h l c.args.seat.now c.loop-owner.seat c.gather_probe.new.seat was.same was.seat
          c.gather_probe.ensures.seat;
      gathered = gathered_on h l c.args.owed.now c.loop-owner.owed c.gather_probe.new.owed was.same was.gathered
          c.gather_probe.ensures.owed;
    }
