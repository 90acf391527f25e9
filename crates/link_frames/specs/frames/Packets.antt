-- Packets: a message of the broadcast from one node to another.
use Rattle.std.specs.Prelude.{◌≡◌, ℕ, Bool, ◌<◌, ◌==◌, not, ◌&&◌, ◌||◌, nat_le, if◌then◌else◌, Option, Some, None}
use Rattle.role_commands.specs.Words.{IsCommand}
use Rattle.role_commands.specs.declared.command.Command.{Command}
use Rattle.link_frames.specs.frames.Kinds.{same_kind}
use Rattle.link_frames.specs.declared.frames.kind.Kind.{Kind}
use Rattle.link_frames.specs.declared.frames.kind.Kind.TheVariants.{Send}
use Rattle.link_frames.specs.declared.frames.packet.Message.{Message}

-- who sends, who is sent to, and the message: its kind, and the command at a place of the owner's stream
pub record PacketValue : Type 0 where
  pub from : ℕ
  pub to : ℕ
  pub kind : Kind
  pub owner : ℕ
  pub place : ℕ
  pub command : Command

-- the places of a stream are the numbers below this one
abbrev pub place_count : ℕ
place_count = 1048576

-- a SEND comes from its owner
abbrev pub SentByOwner : PacketValue → Type 0
SentByOwner p = p.kind ≡ Send → p.from ≡ p.owner

-- a SEND comes from its owner, and the place is one of a stream
abbrev pub IsSound : PacketValue → Type 0
IsSound p = SentByOwner p × (p.place < place_count)

-- what each packet keeps: it is sound, and the command's numbers are within their widths
abbrev pub IsPacket : PacketValue → Type 0
IsPacket p = SentByOwner p × (p.place < place_count) × IsCommand p.command

abbrev pub packet_of : ℕ → ℕ → Message → PacketValue
packet_of from to m = record {
  from = from;
  to = to;
  kind = m.kind;
  owner = m.owner;
  place = m.place;
  command = m.command;
}

abbrev pub message_of : PacketValue → Message
message_of p = record { kind = p.kind; owner = p.owner; place = p.place; command = p.command }

-- it is a SEND that comes from another than its owner
abbrev pub is_relayed : ℕ → Message → Bool
is_relayed from m = same_kind m.kind Send && not (from == m.owner)

-- the packet of a message, if it isn't another's SEND and its place is one of a stream
abbrev pub packet_due : ℕ → ℕ → Message → Option PacketValue
packet_due from to m = if is_relayed from m || nat_le place_count m.place then None else Some (packet_of from to m)
