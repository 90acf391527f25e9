use Rattle.std.proofs.Common.{rules, ◌≡◌, ◌<◌, ◌∙◌, ap, arith, inl, inr, length, refl}
use Rattle.peer_windows.specs.Sent.{IsSeatAfter}
use Rattle.std.specs.Prelude.{true}
use Rattle.peer_windows.specs.Owed.{IsGatherFault, is_full}
use Rattle.peer_windows.specs.Owners.{PairsValue, next_probe}
use Rattle.peer_windows.proofs.Reading.{fault_told}
use Rattle.peer_windows.proofs.Seats.{seat_on, gather_fault_on}
use Rattle.peer_windows.proofs.Gathering.{gathered_none, gathered_on}
use Rattle.peer_windows.proofs.EachOwner.{first_changed, probed_more}
use Rattle.peer_windows.proofs.OwnerLooks.{rooms_more, rooms_same}
use Rattle.peer_windows.proofs.AllLooks.{round_next, all_looked_at}
use Rattle.peer_windows.proofs.pairs.Pairs.gather.Goals as goal

pub returns-in_err-gather_owner-clause-seat : goal.returns-in_err-gather_owner-clause-seat
returns-in_err-gather_owner-clause-seat g c =
    let was = c.owners.invariant in
    seat_on c.args.locked.now c.owners.locked c.args.seat.now c.owners.seat c.gather_owner.new.seat was.same was.seat
    c.gather_owner.ensures.seat

pub owners-preserved : goal.owners-preserved
owners-preserved g c =
    let h = c.args.locked.now in
    let l = c.owners.locked in
    let was = c.owners.invariant in
    let is = c.take_turn-owner.ensures.next in
    let next = c.gather_owner.ensures.node in
    let dues : length c.self.inside.dues.items ≡ length c.args.self.now.dues =
    ap (λ (x : PairsValue). length x.dues) c.self.view_is in
    let turn : c.self.inside.turn ≡ c.args.self.now.turn = ap (λ (x : PairsValue). x.turn) c.self.view_is in
    let count : c.len-turn-end.result ≡ length c.self.inside.dues.items =
    c.len-turn-end.ensures ∙ c.self.inside.dues.ok.0 in
    let few : c.owners._turn < length c.args.self.now.dues = omega (arith, count, dues, c.owners-test.true) in
    let some : c.args.self.now.turn < length c.args.self.now.dues = omega (arith, dues, turn, c.self.invariant.2) in
    record {
      same = c.gather_owner.ensures.same ∙ was.same;
      seat = seat_on h l c.args.seat.now c.owners.seat c.gather_owner.new.seat was.same was.seat
          c.gather_owner.ensures.seat;
      probes = c.gather_owner.ensures.probes ∙ ap (λ (x : PairsValue). x.probes) is ∙ was.probes;
      node = record {
        me = next.me ∙ ap (λ (x : PairsValue). x.me) is ∙ was.node.me;
        longest = next.longest ∙ ap (λ (x : PairsValue). x.longest) is ∙ was.node.longest;
        owners = next.owners ∙ ap (λ (x : PairsValue). length x.pairs) is ∙ was.node.owners;
        moved = next.moved ∙ ap (λ (x : PairsValue). x.moved) is ∙ was.node.moved;
        peers = next.peers ∙ ap (λ (x : PairsValue). length x.probes) is ∙ was.node.peers;
      };
      gathered = gathered_on h l c.args.owed.now c.owners.owed c.gather_owner.new.owed was.same was.gathered
          c.gather_owner.ensures.owed;
      round = round_next h l c.args.now c.owners._turn c.take_turn-owner.result
          (record { rooms = c.args.rooms.now; owed = c.args.owed.now; pairs = c.args.self.now })
          (record { rooms = c.owners.rooms; owed = c.owners.owed; pairs = c.owners.self })
          c.gather_owner.new.rooms c.gather_owner.new.owed c.take_turn-owner.new.self c.gather_owner.new.self was.same
          c.take_turn-owner.ensures.owner c.take_turn-owner.ensures.next was.round c.in_ok-gather_owner.ensures.looks
          c.gather_owner.ensures.owed few some c.take_turn-owner.ensures.within;
    }

pub returns-then-is_full-2-clause-seat : goal.returns-then-is_full-2-clause-seat
returns-then-is_full-2-clause-seat g c =
    seat_on c.args.locked.now c.owners.locked c.args.seat.now c.owners.seat c.peers.seat c.owners.invariant.same
    c.owners.invariant.seat c.peers.invariant.seat

pub returns-in_err-gather_probes-clause-fault : goal.returns-in_err-gather_probes-clause-fault
returns-in_err-gather_probes-clause-fault g c =
    let h = c.args.locked.now in
    let s = c.args.seat.now in
    let t = c.peers.seat in
    let first = c.owners.invariant in
    let was = c.peers.invariant in
    let fault = c.in_err-gather_probes.field-0.0 in
    let after : IsSeatAfter h s t = seat_on h c.owners.locked s c.owners.seat t first.same first.seat was.seat in
    fault_told c.from_residual-in_err-gather_probes.result fault (IsGatherFault h s)
    c.from_residual-in_err-gather_probes.ensures.1
    (gather_fault_on h c.peers.locked s t fault (was.same ∙ first.same) after c.in_err-gather_probes.ensures.fault)

pub returns-in_err-gather_probes-clause-seat : goal.returns-in_err-gather_probes-clause-seat
returns-in_err-gather_probes-clause-seat g c =
    let h = c.args.locked.now in
    let s = c.args.seat.now in
    let first = c.owners.invariant in
    let was = c.peers.invariant in
    let after : IsSeatAfter h s c.peers.seat =
    seat_on h c.owners.locked s c.owners.seat c.peers.seat first.same first.seat was.seat in
    seat_on h c.peers.locked s c.peers.seat c.gather_probes.new.seat (was.same ∙ first.same) after
    c.gather_probes.ensures.seat

pub peers-preserved : goal.peers-preserved
peers-preserved g c =
    let h = c.owners.locked in
    let l = c.peers.locked in
    let was = c.peers.invariant in
    let view : length c.self-2.inside.probes.items ≡ length c.owners.self.probes =
    ap (λ (x : PairsValue). length x.probes) c.self-2.view_is in
    let count : c.len-peer-end.result ≡ length c.self-2.inside.probes.items =
    c.len-peer-end.ensures ∙ c.self-2.inside.probes.ok.0 in
    let within : c.peers.peer < length c.owners.self.probes = omega arith in
    record {
      same = c.gather_probes.ensures.same ∙ was.same;
      seat = seat_on h l c.owners.seat c.peers.seat c.gather_probes.new.seat was.same was.seat
          c.gather_probes.ensures.seat;
      probes = c.gather_probes.ensures.probes
          ∙ probed_more c.args.now c.peers.peer c.owners.self c.peers.self within was.probes;
      gathered = gathered_on h l c.owners.owed c.peers.owed c.gather_probes.new.owed was.same was.gathered
          c.gather_probes.ensures.owed;
      rooms = rooms_more c.owners.rooms c.peers.rooms c.gather_probes.new.rooms was.rooms c.gather_probes.ensures.rooms;
    }

pub returns-clause-seat : goal.returns-clause-seat
returns-clause-seat g c =
    seat_on c.args.locked.now c.owners.locked c.args.seat.now c.owners.seat c.peers.seat c.owners.invariant.same
    c.owners.invariant.seat c.peers.invariant.seat

pub returns-clause-looks : goal.returns-clause-looks
returns-clause-looks g c =
    let was = c.owners.invariant in
    let rest = c.peers.invariant in
    let dues : length c.self.inside.dues.items ≡ length c.args.self.now.dues =
    ap (λ (x : PairsValue). length x.dues) c.self.view_is in
    let turn : c.self.inside.turn ≡ c.args.self.now.turn = ap (λ (x : PairsValue). x.turn) c.self.view_is in
    let count : c.len-turn-end.result ≡ length c.self.inside.dues.items =
    c.len-turn-end.ensures ∙ c.self.inside.dues.ok.0 in
    all_looked_at c.args.locked.now c.owners.locked c.args.now c.owners._turn
    (record { rooms = c.args.rooms.now; owed = c.args.owed.now; pairs = c.args.self.now })
    (record { rooms = c.owners.rooms; owed = c.owners.owed; pairs = c.owners.self })
    c.peers.rooms c.peers.owed (first_changed (next_probe c.args.now) c.peers.peer c.owners.self.probes) c.peers.self
    was.same rest.probes was.round (inl (omega (arith, count, dues, c.owners-test.false)))
    (omega (arith, dues, turn, c.self.invariant.2)) c.requires rest.rooms rest.gathered

pub returns-then-is_full-clause-looks : goal.returns-then-is_full-clause-looks
returns-then-is_full-clause-looks g c =
    let was = c.owners.invariant in
    let dues : length c.self.inside.dues.items ≡ length c.args.self.now.dues =
    ap (λ (x : PairsValue). length x.dues) c.self.view_is in
    let turn : c.self.inside.turn ≡ c.args.self.now.turn = ap (λ (x : PairsValue). x.turn) c.self.view_is in
    let full : is_full c.owners.owed ≡ true = search rules in
    all_looked_at c.args.locked.now c.owners.locked c.args.now c.owners._turn
    (record { rooms = c.args.rooms.now; owed = c.args.owed.now; pairs = c.args.self.now })
    (record { rooms = c.owners.rooms; owed = c.owners.owed; pairs = c.owners.self })
    c.owners.rooms c.owners.owed c.owners.self.probes c.owners.self
    was.same refl was.round (inr full) (omega (arith, dues, turn, c.self.invariant.2)) c.requires
    (rooms_same c.owners.rooms) (gathered_none c.owners.locked c.owners.owed)

pub returns-then-is_full-2-clause-looks : goal.returns-then-is_full-2-clause-looks
returns-then-is_full-2-clause-looks g c =
    let was = c.owners.invariant in
    let rest = c.peers.invariant in
    let dues : length c.self.inside.dues.items ≡ length c.args.self.now.dues =
    ap (λ (x : PairsValue). length x.dues) c.self.view_is in
    let turn : c.self.inside.turn ≡ c.args.self.now.turn = ap (λ (x : PairsValue). x.turn) c.self.view_is in
    let full : is_full c.peers.owed ≡ true = search rules in
    all_looked_at c.args.locked.now c.owners.locked c.args.now c.owners._turn
    (record { rooms = c.args.rooms.now; owed = c.args.owed.now; pairs = c.args.self.now })
    (record { rooms = c.owners.rooms; owed = c.owners.owed; pairs = c.owners.self })
    c.peers.rooms c.peers.owed (first_changed (next_probe c.args.now) c.peers.peer c.owners.self.probes) c.peers.self
    was.same rest.probes was.round (inr full) (omega (arith, dues, turn, c.self.invariant.2)) c.requires rest.rooms
    rest.gathered
