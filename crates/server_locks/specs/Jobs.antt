-- The jobs by which a node takes packets, and when it is told what came of a job.
use Rattle.std.specs.Prelude.{ℕ, ◌+◌, Bool, if◌then◌else◌, List, Option, option_map, option_to_list}
use Rattle.std.specs.List.{flat_map}
use Rattle.link_frames.specs.frames.Packets.{PacketValue, packet_due}
use Rattle.link_frames.specs.declared.frames.packet.Message.{Message}
use Rattle.node_lock.specs.declared.job.Job.{Job}
use Rattle.node_lock.specs.declared.receipt.Call.TheVariants.{Step}
use Rattle.frame_queues.specs.Callers.{most_lines, number_of}
use Rattle.frame_queues.specs.declared.caller.Caller.{Caller}
use Rattle.frame_queues.specs.declared.caller.Caller.TheVariants.{Client}
use Rattle.role_node.specs.declared.event.Event.TheVariants.{Take}

-- the job by which a node takes a packet that came over a caller's connection
abbrev pub peer_job : Caller → PacketValue → Job
peer_job caller packet = record { number = number_of caller; call = Step (Take packet) }

-- the number of the jobs that a client at this place waits for, and which answer no line
abbrev pub again_number : ℕ → ℕ
again_number slot = number_of (Client slot most_lines)

-- the job of this number by which a node takes a message that it sends to itself
abbrev pub own_job : ℕ → ℕ → Message → Option Job
own_job number me message =
    option_map (λ (p : PacketValue). record { number = number; call = Step (Take p) }) (packet_due me me message)

abbrev pub own_jobs : ℕ → ℕ → List Message → List Job
own_jobs number me messages = flat_map (λ m. option_to_list (own_job number me m)) messages

-- a job whose call was made is told of by this time, in milliseconds: now, where something leaves then
abbrev pub told_by : Bool → ℕ → ℕ
told_by leaves now = if leaves then now else now + 10
