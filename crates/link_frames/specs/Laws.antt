-- What is true of frames and of opening them.
use Rattle.std.specs.Prelude.{◌≡◌, ℕ, ◌<◌, ◌^◌, List, length, Ok}
use Rattle.link_frames.specs.frames.Frames.{frame, IsFrameFor}
use Rattle.link_frames.specs.frames.KeyRings.{KeyRing, IsKeyRing, key_with}
use Rattle.role_commands.specs.Bytes.{IsBytes}
use Rattle.link_frames.specs.frames.Layout.{frame_len}
use Rattle.link_frames.specs.frames.Opening.{open_due}
use Rattle.link_frames.specs.frames.Packets.{PacketValue, IsPacket}

-- two rings are of one cluster, and share one key
pub record AreLinked (a b : KeyRing) : Type 0 where
  pub here : IsKeyRing a
  pub sizes : a.sizes ≡ b.sizes
  pub key : key_with a b.me ≡ key_with b a.me

-- what one node seals for another, that one opens to the same packet
abbrev pub SealedIsOpened : Type 0
SealedIsOpened =
    (a b : KeyRing) (cluster : ℕ) (p : PacketValue) → AreLinked a b → cluster < 2 ^ 32 → IsPacket p
    → p.from ≡ a.me → p.to ≡ b.me → p.owner < b.sizes.nodes
    → open_due b cluster (frame (key_with a p.to) cluster p) ≡ Ok p

-- what opens to a packet is the packet's frame
abbrev pub OpenedIsSealed : Type 0
OpenedIsSealed =
    (ring : KeyRing) (cluster : ℕ) (bytes : List ℕ) (p : PacketValue) → IsBytes bytes
    → open_due ring cluster bytes ≡ Ok p → IsFrameFor ring cluster bytes p

-- a packet has one frame: bytes that open to one packet are the same
abbrev pub OneFrame : Type 0
OneFrame =
    (ring : KeyRing) (cluster : ℕ) (xs ys : List ℕ) (p : PacketValue) → IsBytes xs → IsBytes ys
    → open_due ring cluster xs ≡ Ok p → open_due ring cluster ys ≡ Ok p → xs ≡ ys

-- no frame is that of two packets, nor of one packet in two clusters
abbrev pub FramesDiffer : Type 0
FramesDiffer =
    (k l : List ℕ) (c d : ℕ) (p q : PacketValue) → c < 2 ^ 32 → d < 2 ^ 32 → IsPacket p → IsPacket q
    → frame k c p ≡ frame l d q → (c ≡ d) × (p ≡ q)

-- a frame has its length
abbrev pub FrameLength : Type 0
FrameLength = (key : List ℕ) (cluster : ℕ) (p : PacketValue) → length (frame key cluster p) ≡ frame_len
