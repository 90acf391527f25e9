-- Packets of one peer that wait: a list for each owner's stream, at most so many packets in all.
use Rattle.std.specs.Prelude.{◌≡◌, ℕ, ◌-◌, ◌<◌, ◌≤◌, List, [], length, take, drop, sum_by}
use Rattle.std.specs.Prelude.{slice_index_or, slice_set}
use Rattle.link_frames.specs.frames.Packets.{PacketValue}
use Rattle.frame_queues.specs.Waiting.{waiting_with}

-- a list for each owner
abbrev pub Parked : Type 0
Parked = List (List PacketValue)

-- the most packets of a peer that wait
abbrev pub most_parked : ℕ
most_parked = 1024

-- how many wait
abbrev pub parked_count : Parked → ℕ
parked_count all = sum_by length all

-- those in an owner's stream
abbrev pub parked_in : Parked → ℕ → List PacketValue
parked_in all owner = slice_index_or all owner []

-- with one packet more, in its owner's stream
abbrev pub parked_with : PacketValue → Parked → Parked
parked_with p all = slice_set all p.owner (waiting_with p (parked_in all p.owner))

-- without the last packet of an owner's stream, which is the one furthest ahead
abbrev pub without_last : Parked → ℕ → Parked
without_last all owner =
    slice_set all owner (take (length (parked_in all owner) - 1) (parked_in all owner))

-- without the first packet of an owner's stream
abbrev pub without_first : Parked → ℕ → Parked
without_first all owner = slice_set all owner (drop 1 (parked_in all owner))

-- the owner with most packets: the first of those than which none has more
pub record IsFullest (all : Parked) (owner : ℕ) : Type 0 where
  pub there : owner < length all
  pub most : (other : ℕ) → other < length all → length (parked_in all other) ≤ length (parked_in all owner)
  pub first : (other : ℕ) → other < owner → length (parked_in all other) < length (parked_in all owner)

-- the last packet of the owner with most is dropped
abbrev pub IsRelieved : Parked → Parked → Type 0
IsRelieved all new = (owner : ℕ) × IsFullest all owner × (new ≡ without_last all owner)

-- what waits after one packet more: all, and where these are too many all but one
pub record IsParked (p : PacketValue) (old new : Parked) : Type 0 where
  pub fits : parked_count (parked_with p old) ≤ most_parked → new ≡ parked_with p old
  pub relieved : most_parked < parked_count (parked_with p old) → IsRelieved (parked_with p old) new
