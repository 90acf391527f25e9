-- How many frames each node takes, by its index; `None` where there is no connection to it.
use Rattle.std.specs.Prelude.{◌≡◌, ℕ, ◌-◌, ◌==◌, if◌then◌else◌, List, [], ◌∷◌, length, slice_set}
use Rattle.std.specs.Prelude.{Option, Some, option_map}
use Rattle.link_frames.specs.frames.Packets.{PacketValue}
use Rattle.peer_windows.specs.Looks.{room_at, enough_room}
use Rattle.peer_windows.specs.declared.owed.Share.{Share}

-- for so many frames there is no room any more
abbrev pub room_beside : Option ℕ → ℕ → Option ℕ
room_beside room count = option_map (λ free. free - count) room

-- the rooms of nodes, by their indices, beside what is owed to them in these shares
abbrev pub rooms_beside : List Share → List (Option ℕ) → List (Option ℕ)
rooms_beside [] rooms = rooms
rooms_beside (share ∷ shares) rooms =
    rooms_beside shares (slice_set rooms share.peer (room_beside (room_at rooms share.peer) share.count))

-- the node itself takes enough where it has taken all that it has sent to itself once more
abbrev pub own_room : List PacketValue → ℕ
own_room again = if length again == 0 then enough_room else 0

-- The rooms of all nodes: of the peers as the outboxes said, so many for the node itself, and less what is owed
-- already.
pub record AreRoomsFor (me own : ℕ) (shares : List Share) (old new : List (Option ℕ)) : Type 0 where
  pub said : List (Option ℕ)
  pub each : length said ≡ length old
  pub rooms : new ≡ rooms_beside shares (slice_set said me (Some own))

abbrev pub AreRooms : ℕ → List PacketValue → List Share → List (Option ℕ) → List (Option ℕ) → Type 0
AreRooms me again shares old new = AreRoomsFor me (own_room again) shares old new
