use Rattle.std.proofs.Common.{◌≡◌, ◌++◌, ◌≤◌, length, take}
use Rattle.std.specs.Prelude.{max}
use Rattle.node_lock.specs.declared.locked.StepFault.{StepFault}
use Rattle.peer_windows.specs.Sent.{IsReadFault, IsSeatAfter, sent_between}
use Rattle.peer_windows.proofs.sent.push_places.Given as goal

abbrev pub invariant-loop-place : goal.invariant-loop-place
invariant-loop-place g l =
    record {
      same : l.locked ≡ l.initial.locked;
      seat : IsSeatAfter l.initial.locked l.initial.seat l.seat;
      onward : l.from ≤ l.place;
      within : l.place ≤ max l.from l.to;
      fault : (fault : StepFault) → IsReadFault l.initial.locked l.seat fault →
          IsReadFault l.initial.locked l.initial.seat fault;
      messages : l.messages.items ≡ l.initial.messages.items ++ sent_between l.initial.locked l.owner l.from l.place;
      begin : take (length l.initial.messages.items) l.messages.items ≡ l.initial.messages.items;
    }
