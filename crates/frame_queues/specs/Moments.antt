-- What happens to the connections of frames, one after the other, and what of it touches a peer's slots.
use Rattle.std.specs.Prelude.{◌≡◌, ◌⊎◌, ⊤, ℕ, ◌<◌, ◌==◌, Bool, true, false, if◌then◌else◌}
use Rattle.std.specs.Prelude.{List, [], ◌∷◌, Option, Some, None, option_map}
use Rattle.frame_queues.specs.declared.slots.Standing.{Standing}
use Rattle.frame_queues.specs.declared.slots.Standing.TheVariants.{Unnamed, Named, Slot}
use Rattle.frame_queues.specs.declared.slots.Connected.{Connected}
use Rattle.frame_queues.specs.declared.slots.Place.{Place}
use Rattle.frame_queues.specs.Slots.{SlotsValue, IsTable, IsPlaceFor, place_at, is_newcomer, has_slot_of, has_silence}
use Rattle.frame_queues.specs.Slots.{slots_for, opened_by, with_newcomer, named, counted, passed, without}

-- A connection comes, and has this place by a lot. A frame of a peer opens there. A packet counts, or the connection
-- ends, that has this number. The time passes.
pub data Act : Type 0 where
  Comes : (lot now at : ℕ) → Act
  Opens : (at peer now : ℕ) → Act
  Counts : (at number now : ℕ) → Act
  Ends : (at number : ℕ) → Act
  Passes : (now : ℕ) → Act

-- what the calls of `Slots` leave
abbrev pub after : SlotsValue → Act → SlotsValue
after t (Comes lot now at) = with_newcomer t now at
after t (Opens at peer now) = named t at peer now
after t (Counts at number now) = counted t at number now
after t (Ends at number) = without t at number
after t (Passes now) = passed t now

abbrev pub after_all : SlotsValue → List Act → SlotsValue
after_all t [] = t
after_all t (act ∷ acts) = after_all (after t act) acts

-- who comes has the place that is due
abbrev pub May : SlotsValue → Act → Type 0
May t (Comes lot now at) = IsPlaceFor t lot at
May t act = ⊤

abbrev pub MayAll : SlotsValue → List Act → Type 0
MayAll t [] = ⊤
MayAll t (act ∷ acts) = May t act × MayAll (after t act) acts

-- it is a connection of the peer
abbrev pub is_spoken : ℕ → Standing → Bool
is_spoken peer Unnamed = false
is_spoken peer (Named other) = other == peer
is_spoken peer (Slot other) = other == peer

abbrev pub is_spoken_by : ℕ → Option Connected → Bool
is_spoken_by peer None = false
is_spoken_by peer (Some c) = is_spoken peer c.standing

abbrev pub is_at : ℕ → SlotsValue → ℕ → Bool
is_at peer t at = is_spoken_by peer (place_at t.places at).held

-- it happens to a connection of the peer
abbrev pub is_of : ℕ → SlotsValue → Act → Bool
is_of peer t (Comes lot now at) = false
is_of peer t (Opens at other now) =
    is_spoken_by peer (option_map (λ (c : Connected). opened_by other now c) (place_at t.places at).held)
is_of peer t (Counts at number now) = is_at peer t at
is_of peer t (Ends at number) = is_at peer t at
is_of peer t (Passes now) = false

abbrev pub AreOfOthers : ℕ → SlotsValue → List Act → Type 0
AreOfOthers peer t [] = ⊤
AreOfOthers peer t (act ∷ acts) = (is_of peer t act ≡ false) × AreOfOthers peer (after t act) acts

-- the peer's slot at a place, with its connection, if it has one there
abbrev pub slot_in : ℕ → Place → Option Place
slot_in peer p = if has_slot_of peer p then Some p else None

abbrev pub slot_at : ℕ → SlotsValue → ℕ → Option Place
slot_at peer t at = slot_in peer (place_at t.places at)

-- Whatever strangers and the connections of other peers do: the peer has the slots that it had, and no other.
abbrev pub NobodyTakesAnothers : Type 0
NobodyTakesAnothers = (peer : ℕ) (t : SlotsValue) (acts : List Act) → MayAll t acts → AreOfOthers peer t acts →
    (at : ℕ) → slot_at peer (after_all t acts) at ≡ slot_at peer t at

-- the connection of this number stands at a place, in a slot of the peer
pub record Stands (peer at number : ℕ) (t : SlotsValue) : Type 0 where
  pub slot : has_slot_of peer (place_at t.places at) ≡ true
  pub numbered : (place_at t.places at).number ≡ number

-- the connection of this number there is a newcomer of the peer
pub record IsWaiting (peer at number : ℕ) (t : SlotsValue) : Type 0 where
  pub newcomer : is_newcomer (place_at t.places at) ≡ true
  pub spoken : is_at peer t at ≡ true
  pub numbered : (place_at t.places at).number ≡ number

-- why a connection in a slot ends: by itself; or it was silent, and another of its peer is heard; or a packet counts of
-- a newcomer of its peer
abbrev pub EndsBy : ℕ → ℕ → SlotsValue → Act → Type 0
EndsBy peer at t (Comes lot now other) = ⊥
EndsBy peer at t (Opens other by now) =
    (is_of peer t (Opens other by now) ≡ true) × (has_silence now (place_at t.places at).held ≡ true)
EndsBy peer at t (Counts other number now) = IsWaiting peer other number t
EndsBy peer at t (Ends other number) = other ≡ at
EndsBy peer at t (Passes now) = ⊥

abbrev pub EndsIn : ℕ → ℕ → SlotsValue → List Act → Type 0
EndsIn peer at t [] = ⊥
EndsIn peer at t (act ∷ acts) = EndsBy peer at t act ⊎ EndsIn peer at (after t act) acts

abbrev pub SlotsEndRightly : Type 0
SlotsEndRightly = (peer at number : ℕ) (t : SlotsValue) (acts : List Act) → MayAll t acts → Stands peer at number t →
    Stands peer at number (after_all t acts) ⊎ EndsIn peer at t acts

-- A newcomer of a peer of which a packet counts has a slot of that peer.
abbrev pub WhoBringsNewGetsIn : Type 0
WhoBringsNewGetsIn = (peer at number now : ℕ) (t : SlotsValue) → IsTable t → 0 < slots_for t peer →
    IsWaiting peer at number t → Stands peer at number (after t (Counts at number now))
