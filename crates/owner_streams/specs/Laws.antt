-- Laws of streams, about every list of packets that a node took.
use Rattle.std.specs.Prelude.{◌≡◌, ℕ, List, ◌++◌, Some}
use Rattle.quorum_sizes.specs.Sizes.{Counts}
use Rattle.role_commands.specs.declared.command.Command.{Command}
use Rattle.link_frames.specs.frames.Packets.{PacketValue}
use Rattle.owner_streams.specs.Places.{delivered_at, stream, IsStream}

abbrev pub IsPrefixOf : List Command → List Command → Type 0
IsPrefixOf xs ys = (rest : List Command) × (xs ++ rest ≡ ys)

-- no more is delivered in a stream without a gap than the stream lists
abbrev pub StreamIsExact : Type 0
StreamIsExact = (s : Counts) (owner : ℕ) (packets : List PacketValue)
    → IsStream s owner packets (stream s owner packets)

-- there is one stream of an owner
abbrev pub StreamIsOne : Type 0
StreamIsOne = (s : Counts) (owner : ℕ) (packets : List PacketValue) (commands : List Command) →
    IsStream s owner packets commands → commands ≡ stream s owner packets

-- what is delivered stays so
abbrev pub DeliveryStays : Type 0
DeliveryStays = (s : Counts) (owner place : ℕ) (before later : List PacketValue) (c : Command) →
    delivered_at s owner place before ≡ Some c → delivered_at s owner place (before ++ later) ≡ Some c

-- a stream goes on, and nothing in it changes
abbrev pub StreamGrows : Type 0
StreamGrows = (s : Counts) (owner : ℕ) (before later : List PacketValue) →
    IsPrefixOf (stream s owner before) (stream s owner (before ++ later))
