use Rattle.std.proofs.Common.{◌≡◌}
use Rattle.peer_windows.specs.Sent.{IsSeatAfter}
use Rattle.peer_windows.specs.Owners.{IsSameNode}
use Rattle.peer_windows.specs.Owed.{IsGathered}
use Rattle.peer_windows.proofs.OwnerLooks.{IsPart}
use Rattle.peer_windows.proofs.pairs.Pairs.gather_owner.Given as goal

abbrev pub invariant-loop-peer : goal.invariant-loop-peer
invariant-loop-peer g l =
    record {
      same : l.locked ≡ l.initial.locked;
      seat : IsSeatAfter l.initial.locked l.initial.seat l.seat;
      probes : l.self.probes ≡ l.initial.self.probes;
      node : IsSameNode l.initial.self l.self;
      gathered : IsGathered l.initial.locked l.initial.owed l.owed;
      part : IsPart l.initial.locked l.now l.owner l.peer
          (record { rooms = l.initial.rooms; owed = l.initial.owed; due = l.initial.next; pairs = l.initial.self })
          (record { rooms = l.rooms; owed = l.owed; due = l.next; pairs = l.self });
    }
