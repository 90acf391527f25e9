-- Which connections of frames there are: newcomers, and those that have a slot of their peer.
use Rattle.std.specs.Prelude.{◌≡◌, ⊤, ℕ, ◌+◌, ◌-◌, ◌*◌, ◌%◌, ◌<◌, ◌≤◌, ◌==◌, min, nat_lt, nat_le}
use Rattle.std.specs.Prelude.{Bool, true, false, not, ◌&&◌, ◌||◌, if◌then◌else◌, MatchBool}
use Rattle.std.specs.Prelude.{List, length, take, map, fold, slice_index_or, slice_set, count_by, position, replicate}
use Rattle.std.specs.Prelude.{Option, Some, None, is_none, option_and_then}
use Rattle.frame_queues.specs.Limits.{places_for}
use Rattle.frame_queues.specs.declared.slots.Standing.{Standing}
use Rattle.frame_queues.specs.declared.slots.Standing.TheVariants.{Unnamed, Named, Slot}
use Rattle.frame_queues.specs.declared.slots.Connected.{Connected}
use Rattle.frame_queues.specs.declared.slots.Place.{Place}
use Rattle.frame_queues.specs.declared.slots.Way.{Way}
use Rattle.frame_queues.specs.declared.slots.Way.TheVariants.{Stays, Free, Ends}

-- milliseconds: until a frame has to open, for which a newcomer with a name stays, and after which a connection is
-- silent where no frame opens
abbrev pub first_frame : ℕ
first_frame = 2000

abbrev pub named_stay : ℕ
named_stay = 10000

abbrev pub silence : ℕ
silence = 150000

abbrev pub most_time : ℕ
most_time = 18446744073709551615

-- a place for each connection that there may be, in a cluster of so many nodes, at this one of them: so many slots of
-- each other node, and so many newcomers
pub record SlotsValue : Type 0 where
  pub places : List Place
  pub nodes : ℕ
  pub me : ℕ
  pub each : ℕ
  pub newcomers : ℕ

abbrev pub no_place : Place
no_place = record { number = 0; held = None }

abbrev pub place_at : List Place → ℕ → Place
place_at places at = slice_index_or places at no_place

-- no connection yet
abbrev pub none_yet : ℕ → ℕ → ℕ → ℕ → SlotsValue
none_yet nodes me each newcomers = record {
  places = replicate (places_for nodes me each newcomers) no_place;
  nodes = nodes;
  me = me;
  each = each;
  newcomers = newcomers;
}

-- no connection has the place
abbrev pub is_free : Place → Bool
is_free p = is_none p.held

-- the connection there has no slot
abbrev pub has_none : Standing → Bool
has_none (Slot peer) = false
has_none standing = true

abbrev pub waits : Option Connected → Bool
waits None = false
waits (Some c) = has_none c.standing

abbrev pub is_newcomer : Place → Bool
is_newcomer p = waits p.held

-- it has one of this peer
abbrev pub is_slot : ℕ → Standing → Bool
is_slot peer (Slot other) = other == peer
is_slot peer standing = false

abbrev pub holds_slot : ℕ → Option Connected → Bool
holds_slot peer None = false
holds_slot peer (Some c) = is_slot peer c.standing

abbrev pub has_slot_of : ℕ → Place → Bool
has_slot_of peer p = holds_slot peer p.held

-- how many slots a peer has: none where it is no other node of the cluster
abbrev pub slots_for : SlotsValue → ℕ → ℕ
slots_for t peer = if nat_lt peer t.nodes && not (peer == t.me) then t.each else 0

-- at most so many slots of each peer, and so many newcomers, with a place for each of these
pub record IsTable (t : SlotsValue) : Type 0 where
  pub size : length t.places ≡ places_for t.nodes t.me t.each t.newcomers
  pub some : 0 < t.newcomers
  pub each : (peer : ℕ) → count_by (has_slot_of peer) t.places ≤ slots_for t peer
  pub newcomers : count_by is_newcomer t.places ≤ t.newcomers

-- the newcomer before which there are as many as the lot says, of all newcomers
pub record IsDrawn (places : List Place) (lot at : ℕ) : Type 0 where
  pub there : at < length places
  pub newcomer : is_newcomer (place_at places at) ≡ true
  pub before : count_by is_newcomer (take at places) ≡ lot % count_by is_newcomer places

-- the place of a connection that comes: the first that is free, or where there are as many newcomers as may be, that of
-- one drawn by lot
abbrev pub IsPlaceFor : SlotsValue → ℕ → ℕ → Type 0
IsPlaceFor t lot at =
    MatchBool (nat_lt (count_by is_newcomer t.places) t.newcomers) (position is_free t.places ≡ Some at)
    (IsDrawn t.places lot at)

-- the numbers of a place's connections
abbrev pub next_number : ℕ → ℕ
next_number number = (number + 1) % 65536

abbrev pub came_after : ℕ → ℕ → Place
came_after number now = record {
  number = next_number number;
  held = Some (record { standing = Unnamed; counted = 0; opened = now; began = now });
}

abbrev pub with_newcomer : SlotsValue → ℕ → ℕ → SlotsValue
with_newcomer t now at = record t { places = slice_set t.places at (came_after (place_at t.places at).number now) }

-- a packet of the one counted less recently than of the other, or at the same time, and it is older
abbrev pub comes_before : Option Connected → Option Connected → Bool
comes_before None other = false
comes_before (Some one) None = false
comes_before (Some one) (Some other) =
    nat_lt one.counted other.counted || ((one.counted == other.counted) && nat_lt one.began other.began)

abbrev pub is_before : Place → Place → Bool
is_before one other = comes_before one.held other.held

-- no frame has opened there for so long
abbrev pub has_silence : ℕ → Option Connected → Bool
has_silence now None = false
has_silence now (Some c) = nat_le silence (now - c.opened)

-- the peer's slot gives way: to one that brings something new, or where it is silent
abbrev pub gives_way : ℕ → Bool → ℕ → Place → Bool
gives_way peer brings now p = has_slot_of peer p && (brings || has_silence now p.held)

-- of those that give way this one counted least recently, of two equal the older
abbrev pub is_least : List Place → ℕ → Bool → ℕ → Place → Bool
is_least places peer brings now p =
    gives_way peer brings now p
    && (count_by (λ other. gives_way peer brings now other && is_before other p) places == 0)

abbrev pub ends_or_stays : Option ℕ → Way
ends_or_stays None = Stays
ends_or_stays (Some at) = Ends at

-- whether a newcomer of the peer stays one, takes a free slot, or that of the connection at a place, which ends
abbrev pub way_of : SlotsValue → ℕ → Bool → ℕ → Way
way_of t peer brings now =
    if nat_lt (count_by (has_slot_of peer) t.places) (slots_for t peer) then Free
    else ends_or_stays (position (is_least t.places peer brings now) t.places)

-- who has a slot, or no name, stays what it is
abbrev pub way : SlotsValue → Standing → Bool → ℕ → Way
way t Unnamed brings now = Stays
way t (Named peer) brings now = way_of t peer brings now
way t (Slot peer) brings now = Stays

abbrev pub in_slot : Standing → Standing
in_slot Unnamed = Unnamed
in_slot (Named peer) = Slot peer
in_slot (Slot peer) = Slot peer

abbrev pub with_slot : Connected → Connected
with_slot c = record c { standing = in_slot c.standing }

abbrev pub held_at : List Place → ℕ → Option Connected → List Place
held_at places at held = slice_set places at (record (place_at places at) { held = held })

-- the connection at a place goes its way
abbrev pub settled : List Place → ℕ → Connected → Way → List Place
settled places at c Stays = held_at places at (Some c)
settled places at c Free = held_at places at (Some (with_slot c))
settled places at c (Ends other) = held_at (held_at places other None) at (Some (with_slot c))

abbrev pub ended_by : Way → Option ℕ
ended_by (Ends at) = Some at
ended_by way = None

-- it has become so
abbrev pub moved : SlotsValue → ℕ → Connected → Bool → ℕ → SlotsValue
moved t at c brings now = record t { places = settled t.places at c (way t c.standing brings now) }

abbrev pub ended : SlotsValue → Connected → Bool → ℕ → Option ℕ
ended t c brings now = ended_by (way t c.standing brings now)

-- a frame has opened there, of a peer, whose it is from the first one on
abbrev pub name_of : ℕ → Standing → Standing
name_of peer Unnamed = Named peer
name_of peer standing = standing

abbrev pub opened_by : ℕ → ℕ → Connected → Connected
opened_by peer now c = record c { standing = name_of peer c.standing; opened = now }

abbrev pub held_named : SlotsValue → ℕ → ℕ → ℕ → Option Connected → SlotsValue
held_named t at peer now None = t
held_named t at peer now (Some c) = moved t at (opened_by peer now c) false now

abbrev pub named : SlotsValue → ℕ → ℕ → ℕ → SlotsValue
named t at peer now = held_named t at peer now (place_at t.places at).held

abbrev pub named_ends : SlotsValue → ℕ → ℕ → ℕ → Option ℕ
named_ends t at peer now =
    option_and_then (λ (c : Connected). ended t (opened_by peer now c) false now) (place_at t.places at).held

-- a packet of the connection of this number has counted there
abbrev pub held_by : Place → ℕ → Option Connected
held_by p number = if p.number == number then p.held else None

abbrev pub counted_now : ℕ → Connected → Connected
counted_now now c = record c { counted = now }

abbrev pub held_counted : SlotsValue → ℕ → ℕ → Option Connected → SlotsValue
held_counted t at now None = t
held_counted t at now (Some c) = moved t at (counted_now now c) true now

abbrev pub counted : SlotsValue → ℕ → ℕ → ℕ → SlotsValue
counted t at number now = held_counted t at now (held_by (place_at t.places at) number)

abbrev pub counted_ends : SlotsValue → ℕ → ℕ → ℕ → Option ℕ
counted_ends t at number now =
    option_and_then (λ (c : Connected). ended t (counted_now now c) true now) (held_by (place_at t.places at) number)

-- how long a newcomer may stay, and until when; who has a slot stays
abbrev pub stay : Standing → ℕ
stay Unnamed = first_frame
stay standing = named_stay

abbrev pub until_when : Option Connected → ℕ
until_when None = most_time
until_when (Some c) = if has_none c.standing then min most_time (c.began + stay c.standing) else most_time

abbrev pub ends_at : Place → ℕ
ends_at p = until_when p.held

abbrev pub is_over : ℕ → Place → Bool
is_over now p = is_newcomer p && nat_le (ends_at p) now

abbrev pub freed : Place → Place
freed p = record p { held = None }

abbrev pub after_time : ℕ → Place → Place
after_time now p = if is_over now p then freed p else p

abbrev pub passed : SlotsValue → ℕ → SlotsValue
passed t now = record t { places = map (after_time now) t.places }

abbrev pub soonest : List Place → ℕ
soonest places = fold (λ soon p. min soon (ends_at p)) most_time places

-- the connection of this number at a place ends
abbrev pub without : SlotsValue → ℕ → ℕ → SlotsValue
without t at number =
    if (place_at t.places at).number == number then record t { places = held_at t.places at None } else t
