use Rattle.std.proofs.Common.{◌≡◌, ◌+◌, ◌∙◌, arith, refl}
use Rattle.peer_windows.specs.Sent.{IsSeatAfter}
use Rattle.peer_windows.specs.Owed.{IsGatherFault}
use Rattle.peer_windows.specs.Pauses.{never}
use Rattle.peer_windows.proofs.Reading.{fault_told}
use Rattle.peer_windows.proofs.OwnerLooks.{part_next, owner_gathered_at}
use Rattle.peer_windows.proofs.Seats.{seat_on, gather_fault_on}
use Rattle.peer_windows.proofs.Gathering.{gathered_on}
use Rattle.peer_windows.proofs.EachOwner.{same_node_more}
use Rattle.peer_windows.proofs.pairs.Pairs.gather_owner.Goals as goal

pub returns-in_err-gather_peer-clause-fault : goal.returns-in_err-gather_peer-clause-fault
returns-in_err-gather_peer-clause-fault g c =
    let h = c.args.locked.now in
    let s = c.args.seat.now in
    let t = c.loop-peer.seat in
    let was = c.loop-peer.invariant in
    let fault = c.in_err-gather_peer.field-0.0 in
    let same : c.loop-peer.locked ≡ h = was.same ∙ c.look_at.ensures.same in
    let after : IsSeatAfter h s t =
    seat_on h c.look_at.new.locked s c.look_at.new.seat t c.look_at.ensures.same c.look_at.ensures.seat was.seat in
    fault_told c.from_residual-in_err-gather_peer.result fault (IsGatherFault h s)
    c.from_residual-in_err-gather_peer.ensures.1
    (gather_fault_on h c.loop-peer.locked s t fault same after c.in_err-gather_peer.ensures.fault)

pub returns-in_err-gather_peer-clause-seat : goal.returns-in_err-gather_peer-clause-seat
returns-in_err-gather_peer-clause-seat g c =
    let h = c.args.locked.now in
    let s = c.args.seat.now in
    let t = c.loop-peer.seat in
    let was = c.loop-peer.invariant in
    let same : c.loop-peer.locked ≡ h = was.same ∙ c.look_at.ensures.same in
    let after : IsSeatAfter h s t =
    seat_on h c.look_at.new.locked s c.look_at.new.seat t c.look_at.ensures.same c.look_at.ensures.seat was.seat in
    seat_on h c.loop-peer.locked s t c.gather_peer.new.seat same after c.gather_peer.ensures.seat

pub loop-peer-preserved : goal.loop-peer-preserved
loop-peer-preserved g c =
    let h = c.look_at.new.locked in
    let l = c.loop-peer.locked in
    let was = c.loop-peer.invariant in
    record {
      same = c.gather_peer.ensures.same ∙ was.same;
      seat = seat_on h l c.look_at.new.seat c.loop-peer.seat c.gather_peer.new.seat was.same was.seat
          c.gather_peer.ensures.seat;
      probes = c.gather_peer.ensures.probes ∙ was.probes;
      node = same_node_more _ _ _ was.node c.gather_peer.ensures.node;
      gathered = gathered_on h l c.args.owed.now c.loop-peer.owed c.gather_peer.new.owed was.same was.gathered
          c.gather_peer.ensures.owed;
      part = part_next h l c.args.now c.args.owner c.in-Some.name c.loop-peer.peer
          (record { rooms = c.args.rooms.now; owed = c.args.owed.now; due = never; pairs = c.set_due.new.self })
          (record {
            rooms = c.loop-peer.rooms;
            owed = c.loop-peer.owed;
            due = c.loop-peer.next;
            pairs = c.loop-peer.self;
          })
          _ c.gather_peer.new.room c.gather_peer.new.owed c.in_ok-gather_peer.field-0 c.min-next.result
          c.gather_peer.new.self was.same c.in-Some.ensures.name.0 refl was.part c.in_ok-gather_peer.ensures.pair
          c.gather_peer.ensures.owed (omega arith) (omega arith);
    }

pub returns-clause-seat : goal.returns-clause-seat
returns-clause-seat g c =
    seat_on c.args.locked.now c.look_at.new.locked c.args.seat.now c.look_at.new.seat c.loop-peer.seat
    c.look_at.ensures.same c.look_at.ensures.seat c.loop-peer.invariant.seat

pub returns-clause-looks : goal.returns-clause-looks
returns-clause-looks g c =
    owner_gathered_at c.look_at.new.locked c.args.locked.now c.args.now c.args.owner (c.args.now + 10) c.loop-peer.peer
    c.args.self.now c.set_due-2.new.self
    (record { rooms = c.args.rooms.now; owed = c.args.owed.now; due = never; pairs = c.set_due.new.self })
    (record { rooms = c.loop-peer.rooms; owed = c.loop-peer.owed; due = c.loop-peer.next; pairs = c.loop-peer.self })
    c.look_at.ensures.same c.set_due.ensures c.set_due-2.ensures c.loop-peer.invariant.part c.loop-peer-test.false
    (omega (arith, c.if-due-now.false, c.due.ensures)) c.requires
