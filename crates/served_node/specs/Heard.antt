-- What is heard of the peers of a node, by their indices.
use Rattle.std.specs.Prelude.{◌≡◌, ℕ, ◌<◌, ◌≤◌, ◌-◌, ◌==◌, nat_le, nat_lt, Bool, false, ◌&&◌}
use Rattle.std.specs.Prelude.{List, length, slice_index_or, slice_set, position, Option, Some, None, is_some}
use Rattle.std.specs.Prelude.{option_map}
use Rattle.frame_queues.specs.declared.keys.PeerName.{PeerName}
use Rattle.frame_queues.specs.declared.slots.Connected.{Connected}
use Rattle.frame_queues.specs.declared.slots.Place.{Place}
use Rattle.frame_queues.specs.declared.slots.Standing.{Standing}
use Rattle.frame_queues.specs.declared.slots.Standing.TheVariants.{Unnamed, Named, Slot}
use Rattle.operator_lines.specs.declared.answer.PeerStanding.{PeerStanding}
use Rattle.served_node.specs.Counts.{grown}
use Rattle.served_node.specs.declared.heard.PeerHeard.{PeerHeard}

-- what is heard of each peer, and how many frames did not open on connections on which none has
pub record HeardValue : Type 0 where
  pub peers : List PeerHeard
  pub unopened : ℕ

abbrev pub nothing : PeerHeard
nothing = record { stands = false; opened = 0; unopened = 0 }

abbrev pub peer_at : List PeerHeard → ℕ → PeerHeard
peer_at peers index = slice_index_or peers index nothing

-- one frame more did not open on a connection of this peer, or on one on which none has
abbrev pub one_unopened : HeardValue → Option PeerName → HeardValue
one_unopened h None = record h { unopened = grown h.unopened 1 }
one_unopened h (Some name) =
    let peer : PeerHeard = peer_at h.peers name.index in
    record h { peers = slice_set h.peers name.index (record peer { unopened = grown peer.unopened 1 }) }

-- it is told anew that a frame of the peer has opened, after ten seconds
abbrev pub is_news : HeardValue → ℕ → ℕ → Bool
is_news h index now = nat_lt index (length h.peers) && nat_le 10000 (now - (peer_at h.peers index).opened)

abbrev pub opened_now : HeardValue → ℕ → ℕ → HeardValue
opened_now h index now =
    record h { peers = slice_set h.peers index (record (peer_at h.peers index) { opened = now }) }

-- who speaks there is the peer of this index
abbrev pub has_index : ℕ → Standing → Bool
has_index index Unnamed = false
has_index index (Named peer) = peer == index
has_index index (Slot peer) = peer == index

abbrev pub is_held_by : ℕ → Option Connected → Bool
is_held_by index None = false
is_held_by index (Some c) = has_index index c.standing

-- a connection stands there on which a frame of the peer of this index has opened
abbrev pub is_of_index : ℕ → Place → Bool
is_of_index index p = is_held_by index p.held

-- each peer stands where a connection at these places is its own; all else stays
pub record StandsAt (places : List Place) (old new : List PeerHeard) : Type 0 where
  pub count : length new ≡ length old
  pub each : (index : ℕ) → index < length old →
      peer_at new index ≡ record (peer_at old index) { stands = is_some (position (is_of_index index) places) }

-- a peer is heard where a connection of it stands, and a frame of it has opened in the last two and a half minutes
abbrev pub is_heard : PeerHeard → ℕ → Bool
is_heard peer now = peer.stands && nat_lt (now - peer.opened) 150000

-- a peer's standing, with what is heard of it
abbrev pub with_heard : PeerHeard → ℕ → Option PeerStanding → Option PeerStanding
with_heard heard now peer =
    option_map (λ (p : PeerStanding). record p { heard = is_heard heard now; unopened = heard.unopened }) peer

abbrev pub standing_at : List (Option PeerStanding) → ℕ → Option PeerStanding
standing_at peers index = slice_index_or peers index None

-- what is heard of each peer is added to what else is known of it, as far as both lists go
pub record IsAdded (heard : List PeerHeard) (now : ℕ) (old new : List (Option PeerStanding)) : Type 0 where
  pub count : length new ≡ length old
  pub each : (index : ℕ) → index < length old → index < length heard →
      standing_at new index ≡ with_heard (peer_at heard index) now (standing_at old index)
  pub behind : (index : ℕ) → length heard ≤ index → standing_at new index ≡ standing_at old index
