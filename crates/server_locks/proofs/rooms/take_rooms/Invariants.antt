use Rattle.std.specs.Prelude.{◌≡◌, take}
use Rattle.server_locks.specs.Rooms.{rooms_beside}
use Rattle.server_locks.proofs.rooms.take_rooms.Given as goal

abbrev pub invariant-loop-share : goal.invariant-loop-share
invariant-loop-share l = l.rooms ≡ rooms_beside (take l.share-index l.shares) l.initial.rooms
