use Rattle.std.proofs.Common.{◌≡◌}
use Rattle.peer_windows.specs.Sent.{IsSeatAfter}
use Rattle.peer_windows.specs.Owed.{IsGathered}
use Rattle.peer_windows.proofs.pairs.Pairs.gather_probes.Given as goal

abbrev pub invariant-loop-owner : goal.invariant-loop-owner
invariant-loop-owner g l =
    record {
      same : l.locked ≡ l.initial.locked;
      seat : IsSeatAfter l.initial.locked l.initial.seat l.seat;
      gathered : IsGathered l.initial.locked l.initial.owed l.owed;
    }
