-- What comes of opening bytes as a frame: the packet, or the first fault that holds.
use Rattle.std.specs.Prelude.{ℕ, Bool, not, ◌==◌, nat_lt, if◌then◌else◌, List, length}
use Rattle.std.specs.Prelude.{slice_index, Option, Some, None, Result, Ok, Err}
use Rattle.std.specs.Int.{w32, from_be_bytes}
use Rattle.std.specs.Str.{bytes_eq}
use Rattle.role_commands.specs.Bytes.{part, command_in, command_length}
use Rattle.link_frames.specs.frames.Hmac.{hmac}
use Rattle.link_frames.specs.frames.KeyRings.{KeyRing, key_with}
use Rattle.link_frames.specs.frames.Layout.{version, frame_len, version_at, cluster_at, from_at, to_at}
use Rattle.link_frames.specs.frames.Layout.{kind_at, owner_at, place_at, command_at, tag_at, tag_len}
use Rattle.link_frames.specs.frames.Packets.{PacketValue, is_relayed, packet_due}
use Rattle.link_frames.specs.declared.frames.packet.Message.{Message}
use Rattle.link_frames.specs.declared.frames.kind.Kind.{Kind}
use Rattle.link_frames.specs.declared.frames.kind.Kind.TheVariants.{Send, Echo, Ready}
use Rattle.link_frames.specs.declared.frames.opening.LinkFault.{LinkFault}
use Rattle.link_frames.specs.declared.frames.opening.LinkFault.TheVariants as faults

-- what follows, where the test holds
unfoldable pub need : {X : Type 0} → Bool → LinkFault → Result X LinkFault → Result X LinkFault
need test fault rest = if test then rest else Err fault

-- what follows of a value, where there is one
unfoldable pub given : {X Y : Type 0} → Option X → LinkFault → (X → Result Y LinkFault) → Result Y LinkFault
given None fault rest = Err fault
given (Some x) fault rest = rest x

abbrev pub kind_in : ℕ → Option Kind
kind_in b = if b == 1 then Some Send else (if b == 2 then Some Echo else (if b == 3 then Some Ready else None))

-- the packet that the fields say, from and to these nodes, in a cluster of so many
unfoldable pub packet_in : ℕ → ℕ → ℕ → List ℕ → Result PacketValue LinkFault
packet_in nodes from to bytes =
    given (kind_in (slice_index bytes kind_at)) faults.BadKind (λ kind.
    need (nat_lt (slice_index bytes owner_at) nodes) faults.BadOwner (
    given (command_in (part command_at command_length bytes)) faults.BadCommand (λ command.
    let place = from_be_bytes w32 (part place_at 4 bytes) in
    let owner = slice_index bytes owner_at in
    let message : Message = record { kind = kind; owner = owner; place = place; command = command } in
    need (not (is_relayed from message)) faults.SendNotByOwner (
    given (packet_due from to message) faults.BadPlace Ok))))

-- the first fault of these bytes at the ring's node, or the packet whose frame they are
unfoldable pub open_due : KeyRing → ℕ → List ℕ → Result PacketValue LinkFault
open_due ring cluster bytes =
    let from = slice_index bytes from_at in
    need (length bytes == frame_len) faults.Length (
    need (slice_index bytes version_at == version) faults.Version (
    need (from_be_bytes w32 (part cluster_at 4 bytes) == cluster) faults.Cluster (
    need (slice_index bytes to_at == ring.me) faults.NotForMe (
    need (nat_lt from ring.sizes.nodes) faults.NoSuchNode (
    need (bytes_eq (part tag_at tag_len bytes) (hmac (key_with ring from) (part 0 tag_at bytes))) faults.BadTag (
    packet_in ring.sizes.nodes from ring.me bytes))))))
