use Rattle.std.specs.Prelude.{◌≡◌, ◌++◌, take}
use Rattle.server_locks.specs.Fronts.{own_packets}
use Rattle.server_locks.proofs.front.push_own.Given as goal

abbrev pub invariant-loop-message : goal.invariant-loop-message
invariant-loop-message l =
    l.again.items ≡ l.initial.again.items ++ own_packets l.me (take l.message-index l.messages)
