use Rattle.std.proofs.Common.{◌≡◌, ◌∙◌, ap, arith}
use Rattle.node_lock.specs.declared.view.View.{View}
use Rattle.peer_windows.specs.Sent.{sent_there}
use Rattle.peer_windows.proofs.Reading.{fault_on, one_count_more}
use Rattle.peer_windows.proofs.Seats.{seat_more, seat_read_on}
use Rattle.peer_windows.proofs.sent.count_open.Goals as goal

pub loop-place-preserved : goal.loop-place-preserved
loop-place-preserved g c =
    let was = c.loop-place.invariant in
    let same : c.hold.new.self ≡ c.args.locked.now = c.in_ok-view.ensures.held ∙ was.same in
    let again : c.in_ok-view.view.again ≡ sent_there c.args.locked.now c.args.owner c.loop-place.place =
    ap (λ (v : View). v.again) c.in_ok-view.ensures.view
    ∙ ap (λ h. sent_there h c.args.owner c.loop-place.place) same in
    record {
      same = same;
      seat = seat_more c.args.locked.now c.args.seat.now c.loop-place.seat c.hold.new.seat was.seat
          (seat_read_on c.args.locked.now c.loop-place.locked c.loop-place.seat c.hold.new.seat was.same
          c.in_ok-view.ensures.seat c.in_ok-view.ensures.fits);
      fault = λ fault bad. was.fault fault
          (fault_on c.args.locked.now c.loop-place.locked c.loop-place.seat c.hold.new.seat fault was.same
          c.in_ok-view.ensures.seat c.in_ok-view.ensures.fits bad);
      few = omega (arith, c.count_of-count.ensures.most);
      count = one_count_more c.args.locked.now c.args.owner c.args.reach c.loop-place.place c.loop-place.count
          c.count_of-count.result c.in_ok-view.view.again (omega arith) was.count again
          (c.count_of-count.ensures.value c.args.owner c.loop-place.place);
    }
