use Rattle.std.proofs.Common.{◌≡◌, ◌++◌, ◌∙◌, ap, arith}
use Rattle.node_lock.specs.declared.view.View.{View}
use Rattle.peer_windows.specs.Sent.{IsReadFault, sent_there}
use Rattle.peer_windows.proofs.Reading.{fault_on, fault_told, misfit_read, one_place_more, sent_between-end, at_begin}
use Rattle.peer_windows.proofs.Seats.{seat_more, seat_read_on}
use Rattle.peer_windows.proofs.sent.push_places.Goals as goal

pub returns-in_err-push_again-clause-begin : goal.returns-in_err-push_again-clause-begin
returns-in_err-push_again-clause-begin g c =
    at_begin _ _ _ c.loop-place.invariant.begin c.push_again.ensures.begin

pub returns-in_err-push_again-clause-seat : goal.returns-in_err-push_again-clause-seat
returns-in_err-push_again-clause-seat g c =
    let was = c.loop-place.invariant in
    seat_more c.args.locked.now c.args.seat.now c.loop-place.seat c.hold.new.seat was.seat
    (seat_read_on c.args.locked.now c.loop-place.locked c.loop-place.seat c.hold.new.seat was.same
    c.in_ok-view.ensures.seat c.in_ok-view.ensures.fits)

pub loop-place-preserved : goal.loop-place-preserved
loop-place-preserved g c =
    let was = c.loop-place.invariant in
    let same : c.hold.new.self ≡ c.args.locked.now = c.in_ok-view.ensures.held ∙ was.same in
    let again : c.in_ok-view.view.again ≡ sent_there c.args.locked.now c.args.owner c.loop-place.place =
    ap (λ (v : View). v.again) c.in_ok-view.ensures.view
    ∙ ap (λ h. sent_there h c.args.owner c.loop-place.place) same in
    record {
      same = same;
      seat = seat_more c.args.locked.now c.args.seat.now c.loop-place.seat c.hold.new.seat was.seat
          (seat_read_on c.args.locked.now c.loop-place.locked c.loop-place.seat c.hold.new.seat was.same
          c.in_ok-view.ensures.seat c.in_ok-view.ensures.fits);
      onward = omega arith;
      within = omega arith;
      fault = λ fault bad. was.fault fault
          (fault_on c.args.locked.now c.loop-place.locked c.loop-place.seat c.hold.new.seat fault was.same
          c.in_ok-view.ensures.seat c.in_ok-view.ensures.fits bad);
      messages = one_place_more c.args.locked.now c.args.owner c.args.from c.loop-place.place
          c.args.messages.now.items c.loop-place.messages.items c.push_again.new.messages.items
          c.in_ok-view.view.again was.onward was.messages again c.in_ok-push_again.ensures.ok;
      begin = at_begin _ _ _ was.begin c.push_again.ensures.begin;
    }

pub returns-clause-ok : goal.returns-clause-ok
returns-clause-ok g c =
    c.loop-place.invariant.messages
    ∙ ap (λ xs. c.args.messages.now.items ++ xs)
    (sent_between-end c.args.locked.now c.args.owner c.args.from c.args.to c.loop-place.place
    c.loop-place.invariant.onward (omega arith) c.loop-place.invariant.within)

pub returns-in_err-view-clause-fault : goal.returns-in_err-view-clause-fault
returns-in_err-view-clause-fault g c =
    let was = c.loop-place.invariant in
    fault_told c.from_residual.result c.in_err-view.field-0.0 (IsReadFault c.args.locked.now c.args.seat.now)
    c.from_residual.ensures.1
    (was.fault c.in_err-view.field-0.0
    (misfit_read c.args.locked.now c.loop-place.locked c.loop-place.seat c.in_err-view.field-0.0 was.same
    c.in_err-view.ensures.err))
