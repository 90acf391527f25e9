-- What happens to connections of frames changes no slot of a peer that it isn't of.
use Rattle.std.proofs.Common.{◌≡◌, ◌≢◌, ◌⊎◌, inl, inr, ⊎_elim, refl, sym, ap, subst, ◌∙◌, ℕ, ◌+◌, ◌<◌, ◌≤◌, arith}
use Rattle.std.proofs.Common.{Bool, true, false, ◌&&◌, List, [], ◌∷◌, length, get_or, map, Option, Some, None}
use Rattle.std.specs.Prelude.{⊤, slice_set, position, count_by, if◌then◌else◌, nat_lt, ◌==◌, MatchBool, is_none}
use Rattle.std.specs.Prelude.{option_map}
use Rattle.std.proofs.lemmas.Bool.{cases_lt, cases_eq, cases_Bool, and_parts, and_left, false≢true, true≢false}
use Rattle.std.proofs.lemmas.Bool.{eqb-true, eq-eqb}
use Rattle.std.proofs.lemmas.List.{set_past, get_or-set_same, get_or-set_other}
use Rattle.std.proofs.Math.ListN.{get_or-map}
use Rattle.std.proofs.lemmas.List.Quantifiers.{position-Some}
use Rattle.frame_queues.specs.declared.slots.Standing.{Standing}
use Rattle.frame_queues.specs.declared.slots.Standing.TheVariants.{Unnamed, Named, Slot}
use Rattle.frame_queues.specs.declared.slots.Connected.{Connected}
use Rattle.frame_queues.specs.declared.slots.Place.{Place}
use Rattle.frame_queues.specs.declared.slots.Way.{Way}
use Rattle.frame_queues.specs.declared.slots.Way.TheVariants.{Stays, Free, Ends}
use Rattle.frame_queues.specs.Slots.{SlotsValue, no_place, place_at, held_at, has_slot_of, holds_slot, is_slot}
use Rattle.frame_queues.specs.Slots.{gives_way}
use Rattle.frame_queues.specs.Slots.{way, settled, has_silence, with_slot, in_slot, opened_by, name_of, counted_now}
use Rattle.frame_queues.specs.Slots.{moved}
use Rattle.frame_queues.specs.Slots.{IsPlaceFor, IsDrawn, is_free, is_newcomer, has_none, waits, is_over, after_time}
use Rattle.frame_queues.specs.Slots.{freed}
use Rattle.frame_queues.specs.Slots.{came_after, named, held_named, counted, held_counted, held_by, without, passed}
use Rattle.frame_queues.specs.Slots.{with_newcomer}
use Rattle.frame_queues.specs.Moments.{Act, after, after_all, May, MayAll, is_spoken, is_spoken_by, is_at, is_of}
use Rattle.frame_queues.specs.Moments.{AreOfOthers, slot_in, slot_at, NobodyTakesAnothers}
use Rattle.frame_queues.specs.Moments.Act.{Comes, Opens, Counts, Ends as EndsAt, Passes}
use Rattle.frame_queues.proofs.SlotLemmas.{held_there, held_at_same, held_at_other, ends_is_of}

-- the slots of a peer in a list of places
abbrev slot_of : ℕ → List Place → ℕ → Option Place
slot_of peer places at = slot_in peer (place_at places at)

no_slot : (peer : ℕ) (p : Place) → has_slot_of peer p ≡ false → slot_in peer p ≡ None
no_slot peer p none = ap (λ (b : Bool). if b then Some p else None) none

slot_gone : (peer : ℕ) (p : Place) → slot_in peer p ≡ None → has_slot_of peer p ≡ false
slot_gone peer p none =
    ⊎_elim (λ (slot : has_slot_of peer p ≡ true).
    let is : slot_in peer p ≡ Some p = ap (λ (b : Bool). if b then Some p else None) slot in
    absurd (cc))
    (λ (gone : has_slot_of peer p ≡ false). gone)
    (cases_Bool (has_slot_of peer p))

-- where a place without a slot of the peer changes to one without, the peer's slots stay
changed_place : (peer : ℕ) (places : List Place) (at : ℕ) (p : Place) (k : ℕ) →
    has_slot_of peer (place_at places at) ≡ false → has_slot_of peer p ≡ false →
    slot_of peer (slice_set places at p) k ≡ slot_of peer places k
changed_place peer places at p k before now =
    ⊎_elim (λ (same : k ≡ at).
    ⊎_elim (λ (there : at < length places).
    let is : place_at (slice_set places at p) k ≡ p =
    ap (place_at (slice_set places at p)) same ∙ get_or-set_same places at p no_place there in
    no_slot peer (place_at (slice_set places at p) k) (ap (has_slot_of peer) is ∙ now)
    ∙ sym (no_slot peer (place_at places k) (ap (λ n. has_slot_of peer (place_at places n)) same ∙ before)))
    (λ (past : length places ≤ at). ap (λ ps. slot_of peer ps k) (set_past places at p past))
    (cases_lt at (length places)))
    (λ (apart : k ≢ at). ap (slot_in peer) (get_or-set_other places at k p no_place apart))
    (cases_eq k at)

changed_without : (peer : ℕ) (places : List Place) (at : ℕ) (held : Option Connected) (k : ℕ) →
    has_slot_of peer (place_at places at) ≡ false → holds_slot peer held ≡ false →
    slot_of peer (held_at places at held) k ≡ slot_of peer places k
changed_without peer places at held k before now =
    changed_place peer places at (record (place_at places at) { held = held }) k before now

-- a slot is nobody else's
slot_is_spoken : (peer : ℕ) (standing : Standing) → is_spoken peer standing ≡ false → is_slot peer standing ≡ false
slot_is_spoken peer Unnamed other = refl
slot_is_spoken peer (Named by) other = refl
slot_is_spoken peer (Slot by) other = other

taken_is_spoken : (peer : ℕ) (standing : Standing) → is_spoken peer standing ≡ false →
    is_slot peer (in_slot standing) ≡ false
taken_is_spoken peer Unnamed other = refl
taken_is_spoken peer (Named by) other = other
taken_is_spoken peer (Slot by) other = other

slot_of_one : (peer other : ℕ) (standing : Standing) → is_slot other standing ≡ true → (other == peer) ≡ false →
    is_slot peer standing ≡ false
slot_of_one peer other Unnamed is apart = refl
slot_of_one peer other (Named by) is apart = refl
slot_of_one peer other (Slot by) is apart = ap (λ k. k == peer) (eqb-true by other is) ∙ apart

slot_held_of_one : (peer other : ℕ) (held : Option Connected) → holds_slot other held ≡ true →
    (other == peer) ≡ false → holds_slot peer held ≡ false
slot_held_of_one peer other None is apart = refl
slot_held_of_one peer other (Some c) is apart = slot_of_one peer other c.standing is apart

-- a connection of another goes its way
settled_by_another : (peer : ℕ) (t : SlotsValue) (at : ℕ) (c : Connected) (brings : Bool) (now : ℕ) (w : Way) →
    w ≡ way t c.standing brings now → is_spoken peer c.standing ≡ false →
    has_slot_of peer (place_at t.places at) ≡ false → (k : ℕ) →
    slot_of peer (settled t.places at c w) k ≡ slot_of peer t.places k
settled_by_another peer t at c brings now Stays is other before k =
    changed_without peer t.places at (Some c) k before (slot_is_spoken peer c.standing other)
settled_by_another peer t at c brings now Free is other before k =
    changed_without peer t.places at (Some (with_slot c)) k before (taken_is_spoken peer c.standing other)
settled_by_another peer t at c brings now (Ends ended) is other before k =
    let way_is = ends_is_of t c.standing brings now ended (sym is) in
    let gives = (and_parts (has_slot_of way_is.0 (place_at t.places ended)) _ way_is.2).0 in
    let apart : (way_is.0 == peer) ≡ false = ap (is_spoken peer) (sym way_is.1) ∙ other in
    let without : (n : ℕ) → slot_of peer (held_at t.places ended None) n ≡ slot_of peer t.places n =
    λ n. changed_without peer t.places ended None n
    (slot_held_of_one peer way_is.0 (place_at t.places ended).held gives apart) refl in
    changed_without peer (held_at t.places ended None) at (Some (with_slot c)) k
    (slot_gone peer (place_at (held_at t.places ended None) at)
    (without at ∙ no_slot peer (place_at t.places at) before))
    (taken_is_spoken peer c.standing other)
    ∙ without k

opened_is_spoken : (peer other : ℕ) (standing : Standing) → is_spoken peer (name_of other standing) ≡ false →
    is_slot peer standing ≡ false
opened_is_spoken peer other Unnamed apart = refl
opened_is_spoken peer other (Named by) apart = refl
opened_is_spoken peer other (Slot by) apart = apart

abbrev pub named_held : ℕ → ℕ → Option Connected → Option Connected
named_held other now held = option_map (λ (c : Connected). opened_by other now c) held

-- a frame opens on a connection of another, or one that is gone
opened_by_another : (peer : ℕ) (t : SlotsValue) (at other now : ℕ) (held : Option Connected) →
    held ≡ (place_at t.places at).held → is_of peer t (Opens at other now) ≡ false → (k : ℕ) →
    slot_at peer (held_named t at other now held) k ≡ slot_at peer t k
opened_by_another peer t at other now None is apart k = refl
opened_by_another peer t at other now (Some c) is apart k =
    let spoken : is_spoken peer (name_of other c.standing) ≡ false =
    ap (λ (h : Option Connected). is_spoken_by peer (named_held other now h)) is ∙ apart in
    settled_by_another peer t at (opened_by other now c) false now _ refl spoken
    (ap (holds_slot peer) (sym is) ∙ opened_is_spoken peer other c.standing spoken) k

-- a packet of a connection of another counts, or of one that is gone
counted_by_another : (peer : ℕ) (t : SlotsValue) (at now : ℕ) (held : Option Connected) →
    (held ≡ None) ⊎ (held ≡ (place_at t.places at).held) → is_at peer t at ≡ false → (k : ℕ) →
    slot_at peer (held_counted t at now held) k ≡ slot_at peer t k
counted_by_another peer t at now None is apart k = refl
counted_by_another peer t at now (Some c) is apart k =
    ⊎_elim (λ (none : Some c ≡ None). absurd (cc))
    (λ (there : Some c ≡ (place_at t.places at).held).
    let spoken : is_spoken peer c.standing ≡ false = ap (is_spoken_by peer) there ∙ apart in
    settled_by_another peer t at (counted_now now c) true now _ refl spoken
    (ap (holds_slot peer) (sym there) ∙ slot_is_spoken peer c.standing spoken) k)
    is

-- the connection of a number is the one that is there, or none
held_by_cases : (p : Place) (number : ℕ) → (held_by p number ≡ None) ⊎ (held_by p number ≡ p.held)
held_by_cases p number =
    ⊎_elim (λ (same : (p.number == number) ≡ true).
    inr (ap (λ (b : Bool). if b then p.held else None) same))
    (λ (apart : (p.number == number) ≡ false). inl (ap (λ (b : Bool). if b then p.held else None) apart))
    (cases_Bool (p.number == number))

spoken_no_slot : (peer : ℕ) (held : Option Connected) → is_spoken_by peer held ≡ false → holds_slot peer held ≡ false
spoken_no_slot peer None apart = refl
spoken_no_slot peer (Some c) apart = slot_is_spoken peer c.standing apart

-- one that ends is another's
ended_by_another : (peer : ℕ) (t : SlotsValue) (at number : ℕ) → is_at peer t at ≡ false → (k : ℕ) →
    slot_at peer (without t at number) k ≡ slot_at peer t k
ended_by_another peer t at number apart k =
    let gone = changed_without peer t.places at None k (spoken_no_slot peer (place_at t.places at).held apart) refl in
    ⊎_elim (λ (same : ((place_at t.places at).number == number) ≡ true).
    ap (λ (b : Bool). slot_at peer (if b then record t { places = held_at t.places at None } else t) k) same ∙ gone)
    (λ (other : ((place_at t.places at).number == number) ≡ false).
    ap (λ (b : Bool). slot_at peer (if b then record t { places = held_at t.places at None } else t) k) other)
    (cases_Bool ((place_at t.places at).number == number))

-- the place of one that comes is nobody's slot
free_is_no_slot : (peer : ℕ) (held : Option Connected) → is_none held ≡ true → holds_slot peer held ≡ false
free_is_no_slot peer None is = refl
free_is_no_slot peer (Some c) is = absurd (cc)

newcomer_has_none : (peer : ℕ) (standing : Standing) → has_none standing ≡ true → is_slot peer standing ≡ false
newcomer_has_none peer Unnamed is = refl
newcomer_has_none peer (Named by) is = refl
newcomer_has_none peer (Slot by) is = absurd (cc)

newcomer_is_no_slot : (peer : ℕ) (held : Option Connected) → waits held ≡ true → holds_slot peer held ≡ false
newcomer_is_no_slot peer None is = refl
newcomer_is_no_slot peer (Some c) is = newcomer_has_none peer c.standing is

place_is_none : (peer : ℕ) (t : SlotsValue) (lot at : ℕ) (few : Bool) →
    MatchBool few (position is_free t.places ≡ Some at) (IsDrawn t.places lot at) →
    has_slot_of peer (place_at t.places at) ≡ false
place_is_none peer t lot at true is =
    free_is_no_slot peer (place_at t.places at).held (position-Some is_free t.places at no_place is).1
place_is_none peer t lot at false is = newcomer_is_no_slot peer (place_at t.places at).held is.newcomer

pub place_is_no_slot : (peer : ℕ) (t : SlotsValue) (lot at : ℕ) → IsPlaceFor t lot at →
    has_slot_of peer (place_at t.places at) ≡ false
place_is_no_slot peer t lot at is =
    place_is_none peer t lot at (nat_lt (count_by is_newcomer t.places) t.newcomers) is

with_newcomer_of_others : (peer : ℕ) (t : SlotsValue) (lot now at : ℕ) → IsPlaceFor t lot at → (k : ℕ) →
    slot_at peer (with_newcomer t now at) k ≡ slot_at peer t k
with_newcomer_of_others peer t lot now at is k =
    changed_place peer t.places at (came_after (place_at t.places at).number now) k
    (place_is_no_slot peer t lot at is) refl

-- time ends no slot
pub over_is_no_slot : (peer now : ℕ) (p : Place) → is_over now p ≡ true → has_slot_of peer p ≡ false
over_is_no_slot peer now p is = newcomer_is_no_slot peer p.held (and_parts (is_newcomer p) _ is).0

time_keeps : (peer now : ℕ) (p : Place) → slot_in peer (after_time now p) ≡ slot_in peer p
time_keeps peer now p =
    ⊎_elim (λ (over : is_over now p ≡ true).
    ap (λ (b : Bool). slot_in peer (if b then freed p else p)) over
    ∙ no_slot peer (freed p) refl
    ∙ sym (no_slot peer p (over_is_no_slot peer now p over)))
    (λ (left : is_over now p ≡ false). ap (λ (b : Bool). slot_in peer (if b then freed p else p)) left)
    (cases_Bool (is_over now p))

pub place_after_time : (now : ℕ) (places : List Place) (k : ℕ) →
    place_at (map (after_time now) places) k ≡ after_time now (place_at places k)
place_after_time now places k = get_or-map (after_time now) places k no_place

-- one thing that happens to a connection of another
step_of_others : (peer : ℕ) (t : SlotsValue) (act : Act) → May t act → is_of peer t act ≡ false → (k : ℕ) →
    slot_at peer (after t act) k ≡ slot_at peer t k
step_of_others peer t (Comes lot now at) may apart k = with_newcomer_of_others peer t lot now at may k
step_of_others peer t (Opens at other now) may apart k = opened_by_another peer t at other now _ refl apart k
step_of_others peer t (Counts at number now) may apart k =
    counted_by_another peer t at now _ (held_by_cases (place_at t.places at) number) apart k
step_of_others peer t (EndsAt at number) may apart k = ended_by_another peer t at number apart k
step_of_others peer t (Passes now) may apart k =
    ap (slot_in peer) (place_after_time now t.places k) ∙ time_keeps peer now (place_at t.places k)

pub nobody_takes_anothers : NobodyTakesAnothers
nobody_takes_anothers peer t [] may others at = refl
nobody_takes_anothers peer t (act ∷ acts) may others at =
    nobody_takes_anothers peer (after t act) acts may.1 others.1 at
    ∙ step_of_others peer t act may.0 others.0 at
