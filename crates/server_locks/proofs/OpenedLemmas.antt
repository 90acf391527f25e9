-- Frames of a connection that were opened so far.
use Rattle.std.specs.Prelude.{◌≡◌, ◌⊎◌, ℕ, ◌≤◌, true, List, take, Option, None, is_some}
use Rattle.link_frames.specs.frames.Packets.{PacketValue}
use Rattle.frame_queues.specs.declared.keys.PeerName.{PeerName}
use Rattle.server_locks.specs.Opened.{are_taken, packets_of, unopened_of, named_by}

-- the first so many frames were opened; without a name none was
pub record OpenedSoFar (opened : List ℕ → Option PacketValue) (peer_of : PacketValue → PeerName)
    (peer : Option PeerName) (frames : List (List ℕ)) (i : ℕ) (name : Option PeerName) (unopened : ℕ)
    (packets : List PacketValue) : Type 0 where
  pub packets_so_far : packets ≡ packets_of opened (take i frames)
  pub unopened_so_far : unopened ≡ unopened_of opened (take i frames)
  pub few : unopened ≤ i
  pub named : (is_some name ≡ true × are_taken opened peer frames ≡ true) ⊎ ((name ≡ None) × (peer ≡ None) × (i ≡ 0))
  pub whose : name ≡ named_by opened peer_of peer packets
