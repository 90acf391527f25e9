-- Places of connections: what one of them is after another has changed.
use Rattle.std.proofs.Common.{◌≡◌, ◌≢◌, ◌⊎◌, inl, inr, ⊎_elim, refl, sym, ap, subst, ◌∙◌, ℕ, ◌<◌, ◌≤◌, arith}
use Rattle.std.proofs.Common.{Bool, true, false, ◌&&◌, ◌||◌, List, length, get_or, Option, Some, None}
use Rattle.std.specs.Prelude.{slice_set, position, count_by, if◌then◌else◌, nat_lt}
use Rattle.std.proofs.lemmas.Bool.{cases_lt, cases_eq, cases_Bool, and_parts, and_left, false≢true, cond-true}
use Rattle.std.proofs.lemmas.Bool.{cond-false}
use Rattle.std.proofs.lemmas.List.{get_or-set_same, get_or-set_other, set_past, get_or_past, length-set}
use Rattle.std.proofs.lemmas.List.Quantifiers.{position-Some}
use Rattle.frame_queues.specs.declared.slots.Standing.{Standing}
use Rattle.frame_queues.specs.declared.slots.Standing.TheVariants.{Unnamed, Named, Slot}
use Rattle.frame_queues.specs.declared.slots.Connected.{Connected}
use Rattle.frame_queues.specs.declared.slots.Place.{Place}
use Rattle.frame_queues.specs.declared.slots.Way.{Way}
use Rattle.frame_queues.specs.declared.slots.Way.TheVariants.{Stays, Free, Ends}
use Rattle.frame_queues.specs.Slots.{SlotsValue, no_place, place_at, held_at, has_slot_of, holds_slot, gives_way}
use Rattle.frame_queues.specs.Slots.{is_least, ends_or_stays, way, way_of, slots_for, settled, has_silence}

-- a connection is there, so the place is
pub held_there : (places : List Place) (at : ℕ) (c : Connected) → (place_at places at).held ≡ Some c →
    at < length places
held_there places at c held =
    ⊎_elim (λ (less : at < length places). less)
    (λ (past : length places ≤ at).
    let none : (place_at places at).held ≡ None = ap (λ (p : Place). p.held) (get_or_past places at no_place past) in
    absurd (cc))
    (cases_lt at (length places))

pub held_at_same : (places : List Place) (at : ℕ) (held : Option Connected) → at < length places →
    place_at (held_at places at held) at ≡ record (place_at places at) { held = held }
held_at_same places at held there =
    get_or-set_same places at (record (place_at places at) { held = held }) no_place there

pub held_at_other : (places : List Place) (at other : ℕ) (held : Option Connected) → other ≢ at →
    place_at (held_at places at held) other ≡ place_at places other
held_at_other places at other held apart =
    get_or-set_other places at other (record (place_at places at) { held = held }) no_place apart

-- the way to the place of another
ends_chosen : (b : Bool) (found : Option ℕ) (other : ℕ) → (if b then Free else ends_or_stays found) ≡ Ends other →
    found ≡ Some other
ends_chosen true found other is = absurd (cc)
ends_chosen false None other is = absurd (cc)
ends_chosen false (Some at) other is = cc

ends_found : (t : SlotsValue) (peer : ℕ) (brings : Bool) (now other : ℕ) → way_of t peer brings now ≡ Ends other →
    position (is_least t.places peer brings now) t.places ≡ Some other
ends_found t peer brings now other is =
    let b = nat_lt (count_by (has_slot_of peer) t.places) (slots_for t peer) in
    let found = position (is_least t.places peer brings now) t.places in
    ends_chosen b found other is

ends_of_least : (t : SlotsValue) (peer : ℕ) (brings : Bool) (now other : ℕ) →
    position (is_least t.places peer brings now) t.places ≡ Some other →
    gives_way peer brings now (place_at t.places other) ≡ true
ends_of_least t peer brings now other is =
    let found = position-Some (is_least t.places peer brings now) t.places other no_place is in
    (and_parts (gives_way peer brings now (place_at t.places other)) _ found.1).0

-- the one that ends is a slot's of the same peer
pub ends_is_of : (t : SlotsValue) (standing : Standing) (brings : Bool) (now other : ℕ) →
    way t standing brings now ≡ Ends other →
    (peer : ℕ) × (standing ≡ Named peer) × (gives_way peer brings now (place_at t.places other) ≡ true)
ends_is_of t Unnamed brings now other is = absurd (cc)
ends_is_of t (Slot peer) brings now other is = absurd (cc)
ends_is_of t (Named peer) brings now other is =
    (peer, refl, ends_of_least t peer brings now other (ends_found t peer brings now other is))
