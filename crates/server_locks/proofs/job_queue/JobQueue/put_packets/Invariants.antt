use Rattle.std.specs.Prelude.{◌≡◌, ◌++◌, map, take}
use Rattle.server_locks.specs.Jobs.{peer_job}
use Rattle.server_locks.proofs.job_queue.JobQueue.put_packets.Given as goal

abbrev pub invariant-loop-packet : goal.invariant-loop-packet
invariant-loop-packet g l =
    (l.count ≡ l.packet-index)
    × (l.self.pass.put ≡ l.initial.self.pass.put ++ map (peer_job l.caller) (take l.packet-index l.packets))
