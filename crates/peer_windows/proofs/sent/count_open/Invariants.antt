use Rattle.std.proofs.Common.{◌≡◌, ◌-◌, ◌*◌, ◌≤◌, length}
use Rattle.node_lock.specs.declared.locked.StepFault.{StepFault}
use Rattle.peer_windows.specs.Sent.{IsReadFault, IsSeatAfter, sent_between}
use Rattle.peer_windows.proofs.sent.count_open.Given as goal

abbrev pub invariant-loop-place : goal.invariant-loop-place
invariant-loop-place g l =
    record {
      same : l.locked ≡ l.initial.locked;
      seat : IsSeatAfter l.initial.locked l.initial.seat l.seat;
      fault : (fault : StepFault) → IsReadFault l.initial.locked l.seat fault →
          IsReadFault l.initial.locked l.initial.seat fault;
      few : l.count ≤ 3 * (l.place - l.reach);
      count : l.count ≡ length (sent_between l.initial.locked l.owner l.reach l.place);
    }
