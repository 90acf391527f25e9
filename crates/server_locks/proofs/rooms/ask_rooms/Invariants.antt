use Rattle.std.specs.Prelude.{◌≡◌, length}
use Rattle.server_locks.proofs.rooms.ask_rooms.Given as goal

abbrev pub invariant-loop-outbox : goal.invariant-loop-outbox
invariant-loop-outbox g l = length l.rooms ≡ length l.initial.rooms
