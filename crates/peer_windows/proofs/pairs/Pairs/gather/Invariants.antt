use Rattle.std.proofs.Common.{◌≡◌}
use Rattle.peer_windows.specs.Sent.{IsSeatAfter}
use Rattle.peer_windows.specs.Owners.{IsSameNode}
use Rattle.peer_windows.specs.Owed.{IsGathered}
use Rattle.peer_windows.specs.inside.PairLooks.{AreRoomsAfter}
use Rattle.peer_windows.proofs.AllLooks.{IsRound}
use Rattle.peer_windows.proofs.EachOwner.{probed_first}
use Rattle.peer_windows.proofs.pairs.Pairs.gather.Given as goal

abbrev pub invariant-owners : goal.invariant-owners
invariant-owners g l =
    record {
      same : l.locked ≡ l.initial.locked;
      seat : IsSeatAfter l.initial.locked l.initial.seat l.seat;
      probes : l.self.probes ≡ l.initial.self.probes;
      node : IsSameNode l.initial.self l.self;
      gathered : IsGathered l.initial.locked l.initial.owed l.owed;
      round : IsRound l.initial.locked l.now l._turn
          (record { rooms = l.initial.rooms; owed = l.initial.owed; pairs = l.initial.self })
          (record { rooms = l.rooms; owed = l.owed; pairs = l.self });
    }

abbrev pub invariant-peers : goal.invariant-peers
invariant-peers g l =
    record {
      same : l.locked ≡ l.initial.locked;
      seat : IsSeatAfter l.initial.locked l.initial.seat l.seat;
      probes : l.self ≡ probed_first l.now l.peer l.initial.self;
      gathered : IsGathered l.initial.locked l.initial.owed l.owed;
      rooms : AreRoomsAfter l.initial.rooms l.rooms;
    }
