-- What is taken of the frames of a peer's connection.
use Rattle.std.specs.Prelude.{ℕ, Bool, false, ◌||◌, not, if◌then◌else◌, List, [], ◌∷◌, length, take, count_by}
use Rattle.std.specs.Prelude.{Option, None, Some, is_some, option_to_list}
use Rattle.std.specs.List.{flat_map}
use Rattle.link_frames.specs.frames.Packets.{PacketValue}
use Rattle.frame_queues.specs.declared.keys.PeerName.{PeerName}

-- `opened` says as which packet a frame opens
module _ (opened : List ℕ → Option PacketValue) where
  -- the packets of the frames that open
  abbrev pub packets_of : List (List ℕ) → List PacketValue
  packets_of frames = flat_map (λ frame. option_to_list (opened frame)) frames

  -- how many don't
  abbrev pub unopened_of : List (List ℕ) → ℕ
  unopened_of frames = count_by (λ frame. not (is_some (opened frame))) frames

  -- there is a first, and it opens
  abbrev pub first_opens : List (List ℕ) → Bool
  first_opens [] = false
  first_opens (frame ∷ frames) = is_some (opened frame)

  -- all are taken where one has opened before, or the first does; else the first alone is looked at
  abbrev pub are_taken : Option PeerName → List (List ℕ) → Bool
  are_taken peer frames = is_some peer || first_opens frames

  abbrev pub packets_taken : Option PeerName → List (List ℕ) → List PacketValue
  packets_taken peer frames = if are_taken peer frames then packets_of frames else []

  abbrev pub unopened_taken : Option PeerName → List (List ℕ) → ℕ
  unopened_taken peer frames = if are_taken peer frames then unopened_of frames else length (take 1 frames)

  -- the peer whose connection it is, which stays: that of the first packet
  module _ (peer_of : PacketValue → PeerName) where
    abbrev pub named_by : Option PeerName → List PacketValue → Option PeerName
    named_by (Some peer) packets = Some peer
    named_by None [] = None
    named_by None (packet ∷ packets) = Some (peer_of packet)

    abbrev pub name_due : Option PeerName → List (List ℕ) → Option PeerName
    name_due peer frames = named_by peer (packets_taken peer frames)
