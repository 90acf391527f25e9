-- Which job comes next: of a packet that comes first, of one that the node sends to itself once more, or of the inbox.
use Rattle.std.specs.Prelude.{◌≡◌, List, [], ◌∷◌, Option, None, Some, MatchOption}
use Rattle.link_frames.specs.frames.Packets.{PacketValue}
use Rattle.node_lock.specs.Inboxes.{Passing, after_take}
use Rattle.node_lock.specs.declared.job.Job.{Job}
use Rattle.node_lock.specs.declared.receipt.Call.TheVariants.{Step}
use Rattle.frame_queues.specs.Callers.{number_of}
use Rattle.frame_queues.specs.Firsts.{FirstValue, IsDueAnswer}
use Rattle.frame_queues.specs.declared.caller.Caller.TheVariants.{Nobody}
use Rattle.role_node.specs.declared.event.Event.TheVariants.{Take}

-- the job by which the node takes a packet that nobody waits for
abbrev pub packet_job : PacketValue → Job
packet_job packet = record { number = number_of Nobody; call = Step (Take packet) }

-- what is taken of the packets that come first: the node's own, else one that waited and is due
abbrev pub IsFirst : FirstValue → FirstValue → Option PacketValue → Type 0
IsFirst old new taken =
    MatchOption old.own (IsDueAnswer old new taken) (λ p. (taken ≡ Some p) × (new ≡ record old { own = None }))

-- where none comes first: the packet that the node has sent to itself once more for the longest time, else what the
-- inbox gives
abbrev pub IsBehindFirst : List PacketValue → List PacketValue → Passing → Passing → Option Job → Type 0
IsBehindFirst [] again before after job =
    (again ≡ []) × MatchOption job (after ≡ before) (λ j. after ≡ after_take before j)
IsBehindFirst (p ∷ rest) again before after job = (again ≡ rest) × (after ≡ before) × (job ≡ Some (packet_job p))

-- the next job; every other packet and job stays where it was
pub record IsNextJob (old_first new_first : FirstValue) (old_again new_again : List PacketValue)
    (before after : Passing) (job : Option Job) : Type 0 where
  pub packet : Option PacketValue
  pub taken : IsFirst old_first new_first packet
  pub job_is : MatchOption packet (IsBehindFirst old_again new_again before after job)
      (λ p. (new_again ≡ old_again) × (after ≡ before) × (job ≡ Some (packet_job p)))
