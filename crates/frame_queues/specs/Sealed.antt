-- Frames that a node seals.
use Rattle.std.specs.Prelude.{ℕ, nat_lt, if◌then◌else◌, List, Option, None, option_map}
use Rattle.link_frames.specs.frames.Frames.{frame}
use Rattle.link_frames.specs.frames.KeyRings.{KeyRing, key_with}
use Rattle.link_frames.specs.frames.Packets.{packet_due}
use Rattle.link_frames.specs.declared.frames.packet.Message.{Message}

-- the frame of a message to a node of the cluster, where a packet of the ring's node may have the message
abbrev pub frame_due : KeyRing → ℕ → ℕ → Message → Option (List ℕ)
frame_due ring cluster to message =
    if nat_lt to ring.sizes.nodes then option_map (frame (key_with ring to) cluster) (packet_due ring.me to message)
    else None
