use Rattle.std.proofs.Common.{◌≡◌, ◌≤◌, drop}
use Rattle.std.specs.Prelude.{min}
use Rattle.peer_windows.specs.Pauses.{never}
use Rattle.peer_windows.specs.Owners.{least}
use Rattle.peer_windows.proofs.pairs.least.Given as goal

abbrev pub invariant-loop-time : goal.invariant-loop-time
invariant-loop-time l =
    record { within : l.least ≤ never; rest : min l.least (least (drop l.time-index l.times)) ≡ least l.times }
