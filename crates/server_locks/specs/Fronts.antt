-- What the worker that takes jobs gathers, for single peers and for the node itself.
use Rattle.std.specs.Prelude.{◌≡◌, ◌⊎◌, ℕ, Bool, true, nat_le, List, [], ◌∷◌, ◌++◌, length, take, drop, map, Option}
use Rattle.std.specs.Prelude.{option_to_list}
use Rattle.std.specs.List.{flat_map}
use Rattle.link_frames.specs.frames.Packets.{PacketValue, packet_due}
use Rattle.link_frames.specs.declared.frames.packet.Message.{Message}
use Rattle.node_lock.specs.Holds.{Held}
use Rattle.peer_windows.specs.Looks.{AreLookedAt}
use Rattle.peer_windows.specs.Owed.{OwedValue, is_full}
use Rattle.peer_windows.specs.Owners.{PairsValue, connected, next_due, next_probe}
use Rattle.served_node.specs.Sent.{owed_to}
use Rattle.server_locks.specs.Rooms.{AreRooms}

-- there is a new connection to each of these peers
abbrev pub all_connected : ℕ → List ℕ → PairsValue → PairsValue
all_connected now [] a = a
all_connected now (peer ∷ peers) a = all_connected now peers (connected now peer a)

-- it is time to look at pairs
abbrev pub is_due : ℕ → PairsValue → Bool
is_due now a = nat_le (next_due a) now

-- the packets of messages from a node to itself
abbrev pub own_packets : ℕ → List Message → List PacketValue
own_packets me messages = flat_map (λ m. option_to_list (packet_due me me m)) messages

-- the messages that were gathered for a peer behind those that were there
abbrev pub owed_behind : ℕ → OwedValue → OwedValue → List Message
owed_behind peer old new =
    owed_to peer (drop (length old.shares) new.shares) (drop (length old.messages) new.messages)

-- what a node sends to itself once more stands behind what was there: all of it, but for want of memory
pub record AreKept (me : ℕ) (messages : List Message) (old new : List PacketValue) : Type 0 where
  pub count : ℕ
  pub kept : new ≡ old ++ own_packets me (take count messages)

-- The pairs were looked at, with these rooms, and probes that were due are due later, unless no more is gathered at
-- once. That a probe was gathered this doesn't say.
pub record AreSeen (h : Held) (now me : ℕ) (again : List PacketValue) (rooms : List (Option ℕ)) (had owed : OwedValue)
    (old new : PairsValue) : Type 0 where
  pub before : List (Option ℕ)
  pub after : List (Option ℕ)
  pub said : AreRooms me again had.shares rooms before
  pub looks : AreLookedAt h now before after owed old new
  pub probes : (is_full owed ≡ true) ⊎ (new.probes ≡ map (next_probe now) old.probes)
