-- The stream of an owner: what follows for it from the whole list of the packets that a node took, oldest first.
use Rattle.std.specs.Prelude.{◌≡◌, ℕ, suc, zero, ◌+◌, ◌≤◌, ◌==◌, ◌&&◌, max, if◌then◌else◌}
use Rattle.std.specs.Prelude.{List, [], ◌∷◌, length, slice_get, Option, Some, None}
use Rattle.std.specs.List.{filter_map}
use Rattle.quorum_sizes.specs.Sizes.{Counts}
use Rattle.role_commands.specs.declared.command.Command.{Command}
use Rattle.link_frames.specs.frames.Packets.{PacketValue}
use Rattle.bracha_instance.specs.Broadcast.{Take, delivered}
pub use Rattle.link_frames.specs.frames.Packets.{place_count}

-- so many places from the end of the stream on are open
abbrev pub window : ℕ
window = 64

-- what a packet is for the instance that it belongs to
abbrev pub take_of : PacketValue → Take
take_of p = record { kind = p.kind; from = p.from; command = p.command }

abbrev pub take_at : ℕ → ℕ → PacketValue → Option Take
take_at owner place p = if p.owner == owner && p.place == place then Some (take_of p) else None

-- the messages of the instance at a place of the owner's stream
unfoldable pub takes_at : ℕ → ℕ → List PacketValue → List Take
takes_at owner place packets = filter_map (take_at owner place) packets

-- the command that is delivered there
abbrev pub delivered_at : Counts → ℕ → ℕ → List PacketValue → Option Command
delivered_at s owner place packets = delivered s (takes_at owner place packets)

-- each packet is of a place before this one
unfoldable pub places_end : List PacketValue → ℕ
places_end [] = 0
places_end (p ∷ packets) = max (p.place + 1) (places_end packets)

abbrev pub cons_if : {A : Type 0} → Option A → List A → List A
cons_if None rest = []
cons_if (Some x) rest = x ∷ rest

-- the answers at this number and the next ones, up to the first at which there is none; so many at most
unfoldable pub answers_from : {A : Type 0} → (ℕ → Option A) → ℕ → ℕ → List A
answers_from ask k zero = []
answers_from ask k (suc most) = cons_if (ask k) (answers_from ask (k + 1) most)

-- The stream is the longest run of delivered commands from place 0 without a gap.
unfoldable pub stream : Counts → ℕ → List PacketValue → List Command
stream s owner packets = answers_from (λ place. delivered_at s owner place packets) 0 (places_end packets)

-- how far the stream reaches: its length
abbrev pub reach : Counts → ℕ → List PacketValue → ℕ
reach s owner packets = length (stream s owner packets)

-- The list is the stream: each place before its end is delivered, with that command, and the place at its end is not.
abbrev pub IsStream : Counts → ℕ → List PacketValue → List Command → Type 0
IsStream s owner packets commands =
    (place : ℕ) → place ≤ length commands → delivered_at s owner place packets ≡ slice_get commands place
