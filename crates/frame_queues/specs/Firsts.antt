-- What comes before the jobs of an inbox: the node's own packet, then those that waited and are due.
use Rattle.std.specs.Prelude.{◌≡◌, ℕ, ◌<◌, Option, Some, None, MatchOption, List, [], length}
use Rattle.std.specs.Prelude.{slice_index_or, slice_set}
use Rattle.link_frames.specs.frames.Packets.{PacketValue}
use Rattle.frame_queues.specs.Waiting.{first_below}
use Rattle.frame_queues.specs.Parking.{Parked, parked_in, without_first, IsParked}

-- an owner whose packets below this place are due
pub record DueValue : Type 0 where
  pub owner : ℕ
  pub end : ℕ

-- the node's own packet, who is due, and what waits of each peer
pub record FirstValue : Type 0 where
  pub own : Option PacketValue
  pub due : Option DueValue
  pub parked : List Parked

-- what waits of a peer
abbrev pub parked_of : List Parked → ℕ → Parked
parked_of all peer = slice_index_or all peer []

-- one packet more waits, in the list of the peer that it comes from
abbrev pub IsFirstParked : PacketValue → FirstValue → FirstValue → Type 0
IsFirstParked p old new =
    (now : Parked) × IsParked p (parked_of old.parked p.from) now ×
    (new ≡ record old { parked = slice_set old.parked p.from now })

-- the packet of a peer that is due: the first in the owner's stream, if it is below the end
abbrev pub due_of : DueValue → Parked → Option PacketValue
due_of due all = first_below due.end (parked_in all due.owner)

-- no packet of any peer is due
abbrev pub NoneIsDue : DueValue → List Parked → Type 0
NoneIsDue due all = (peer : ℕ) → peer < length all → due_of due (parked_of all peer) ≡ None

-- this packet is due, of the first peer of which one is, and waits no more
pub record IsTaken (due : DueValue) (old new : List Parked) (p : PacketValue) : Type 0 where
  pub peer : ℕ
  pub there : peer < length old
  pub before : (other : ℕ) → other < peer → due_of due (parked_of old other) ≡ None
  pub packet : due_of due (parked_of old peer) ≡ Some p
  pub after : new ≡ slice_set old peer (without_first (parked_of old peer) due.owner)

-- what is taken of the packets of the owner who is due. Where none is, no owner is due any more
abbrev pub IsDueAnswer : FirstValue → FirstValue → Option PacketValue → Type 0
IsDueAnswer old new taken =
    MatchOption old.due ((taken ≡ None) × (new ≡ old))
    (λ due. MatchOption taken (NoneIsDue due old.parked × (new ≡ record old { due = None }))
    (λ p. (now : List Parked) × IsTaken due old.parked now p × (new ≡ record old { parked = now })))
