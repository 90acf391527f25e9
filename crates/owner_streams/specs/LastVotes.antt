-- How far a node has voted in an owner's stream, by the packets that another one took.
use Rattle.std.specs.Prelude.{ℕ, ◌==◌, ◌&&◌, not, max, if◌then◌else◌, List, [], ◌∷◌, Option, Some, None}
use Rattle.std.specs.List.{filter_map}
use Rattle.std.specs.Option.{option_map_or}
use Rattle.link_frames.specs.frames.Kinds.{same_kind}
use Rattle.link_frames.specs.frames.Packets.{PacketValue}
use Rattle.link_frames.specs.declared.frames.kind.Kind.TheVariants.{Send}

-- the place of the packet, where it is a vote, an ECHO or a READY, of this node about the owner's stream
abbrev pub vote_place : ℕ → ℕ → PacketValue → Option ℕ
vote_place owner voter p =
    if (p.owner == owner && p.from == voter) && not (same_kind Send p.kind) then Some p.place else None

-- the greatest of numbers
unfoldable pub greatest : List ℕ → Option ℕ
greatest [] = None
greatest (x ∷ xs) = Some (option_map_or (max x) (greatest xs) x)

-- the greatest place of the owner's stream at which the node has voted
unfoldable pub last_vote : ℕ → ℕ → List PacketValue → Option ℕ
last_vote owner voter packets = greatest (filter_map (vote_place owner voter) packets)
