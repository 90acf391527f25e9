-- The frame of a packet: its fields, each number with its highest byte first, and behind them the HMAC of
-- the fields under the key that the two nodes share.
use Rattle.std.specs.Prelude.{◌≡◌, ℕ, ◌<◌, List, ◌∷◌, ◌++◌}
use Rattle.std.specs.Int.{w32, to_be_bytes}
use Rattle.role_commands.specs.Bytes.{bytes_of}
use Rattle.link_frames.specs.frames.Hmac.{hmac}
use Rattle.link_frames.specs.frames.KeyRings.{KeyRing, key_with}
use Rattle.link_frames.specs.frames.Layout.{version}
use Rattle.link_frames.specs.frames.Packets.{PacketValue, IsPacket}
use Rattle.link_frames.specs.declared.frames.kind.Kind.{Kind}
use Rattle.link_frames.specs.declared.frames.kind.Kind.TheVariants.{Send, Echo, Ready}

abbrev pub kind_byte : Kind → ℕ
kind_byte Send = 1
kind_byte Echo = 2
kind_byte Ready = 3

-- the fields in front of the command
abbrev pub header : ℕ → PacketValue → List ℕ
header cluster p =
    version ∷ to_be_bytes w32 cluster ++ p.from ∷ p.to ∷ kind_byte p.kind ∷ p.owner ∷ to_be_bytes w32 p.place

-- all fields
unfoldable pub fields_of : ℕ → PacketValue → List ℕ
fields_of cluster p = header cluster p ++ bytes_of p.command

-- the frame of a packet in a cluster, under a key
unfoldable pub frame : List ℕ → ℕ → PacketValue → List ℕ
frame key cluster p = fields_of cluster p ++ hmac key (fields_of cluster p)

-- the bytes are the frame of a packet to the ring's node, under the key shared with the packet's sender,
-- and sender and owner are nodes
pub record IsFrameFor (ring : KeyRing) (cluster : ℕ) (bytes : List ℕ) (p : PacketValue) : Type 0 where
  pub packet : IsPacket p
  pub frame : bytes ≡ frame (key_with ring p.from) cluster p
  pub to : p.to ≡ ring.me
  pub from : p.from < ring.sizes.nodes
  pub owner : p.owner < ring.sizes.nodes
