-- Why a connection in a slot ends, and that a newcomer gets in that brings something new.
use Rattle.std.proofs.Common.{◌≡◌, ◌≢◌, ◌⊎◌, inl, inr, ⊎_elim, refl, sym, ap, subst, ◌∙◌, ℕ, zero, suc, ◌+◌, ◌<◌, ◌≤◌}
use Rattle.std.proofs.Common.{arith}
use Rattle.std.proofs.Common.{Bool, true, false, ◌&&◌, ◌||◌, List, [], ◌∷◌, length, get_or, map, Option, Some, None}
use Rattle.std.specs.Prelude.{slice_set, position, count_by, if◌then◌else◌, nat_lt, ◌==◌, option_map}
use Rattle.std.proofs.lemmas.Bool.{cases_lt, cases_eq, cases_Bool, and_parts, false≢true, true≢false, eqb-true, eq-eqb}
use Rattle.std.proofs.lemmas.List.{get_or-set_same, get_or-set_other}
use Rattle.frame_queues.specs.declared.slots.Standing.{Standing}
use Rattle.frame_queues.specs.declared.slots.Standing.TheVariants.{Unnamed, Named, Slot}
use Rattle.frame_queues.specs.declared.slots.Connected.{Connected}
use Rattle.frame_queues.specs.declared.slots.Place.{Place}
use Rattle.frame_queues.specs.declared.slots.Way.{Way}
use Rattle.frame_queues.specs.declared.slots.Way.TheVariants.{Stays, Free, Ends}
use Rattle.frame_queues.specs.Slots.{SlotsValue, no_place, place_at, held_at, has_slot_of, holds_slot, is_slot}
use Rattle.frame_queues.specs.Slots.{gives_way}
use Rattle.frame_queues.specs.Slots.{way, settled, has_silence, with_slot, opened_by, name_of, counted_now, has_none}
use Rattle.frame_queues.specs.Slots.{waits}
use Rattle.frame_queues.specs.Slots.{is_newcomer, is_over, after_time, freed, held_named, held_counted, held_by}
use Rattle.frame_queues.specs.Slots.{without}
use Rattle.frame_queues.specs.Moments.{Act, after, after_all, May, MayAll, is_spoken, is_spoken_by, is_of, Stands}
use Rattle.frame_queues.specs.Moments.{IsWaiting, EndsBy, EndsIn, SlotsEndRightly}
use Rattle.frame_queues.specs.Moments.Act.{Comes, Opens, Counts, Ends as EndsAt, Passes}
use Rattle.frame_queues.proofs.SlotLemmas.{held_there, held_at_same, held_at_other, ends_is_of}
use Rattle.frame_queues.proofs.TableLemmas.{IsLike, slot_waits, free_is_named, opened_is_like, same_is_like}
use Rattle.frame_queues.proofs.MomentLemmas.{place_is_no_slot, over_is_no_slot, place_after_time, named_held}

-- a place that is as it was
stands_same : (peer at number : ℕ) (t u : SlotsValue) → place_at u.places at ≡ place_at t.places at →
    Stands peer at number t → Stands peer at number u
stands_same peer at number t u same stands = record {
  slot = ap (has_slot_of peer) same ∙ stands.slot;
  numbered = ap (λ (p : Place). p.number) same ∙ stands.numbered;
}

-- a slot is one peer's
one_peer : (peer other : ℕ) (standing : Standing) → is_slot peer standing ≡ true → is_slot other standing ≡ true →
    other ≡ peer
one_peer peer other Unnamed is of_other = absurd (false≢true is)
one_peer peer other (Named by) is of_other = absurd (false≢true is)
one_peer peer other (Slot by) is of_other = sym (eqb-true by other of_other) ∙ eqb-true by peer is

one_peer_there : (peer other : ℕ) (held : Option Connected) → holds_slot peer held ≡ true →
    holds_slot other held ≡ true → other ≡ peer
one_peer_there peer other None is of_other = absurd (false≢true is)
one_peer_there peer other (Some c) is of_other = one_peer peer other c.standing is of_other

-- who has a slot goes no way
slot_goes_none : (peer at number : ℕ) (t : SlotsValue) (old c : Connected) → Stands peer at number t →
    (place_at t.places at).held ≡ Some old → IsLike old.standing c.standing → has_none c.standing ≡ true → ⊥
slot_goes_none peer at number t old c stands held like none =
    slot_waits peer c.standing none (like.slot peer ∙ ap (holds_slot peer) (sym held) ∙ stands.slot)

-- a connection goes its way: one in a slot stands, unless that is the way
stands_or_ends : (peer at number : ℕ) (t : SlotsValue) (other : ℕ) (old c : Connected) (brings : Bool) (now : ℕ)
    (w : Way) → Stands peer at number t → (place_at t.places other).held ≡ Some old → IsLike old.standing c.standing →
    w ≡ way t c.standing brings now →
    Stands peer at number (record t { places = settled t.places other c w }) ⊎ (w ≡ Ends at)
stands_or_ends peer at number t other old c brings now Stays stands held like is =
    inl (⊎_elim (λ (same : at ≡ other).
    let new : place_at (held_at t.places other (Some c)) at ≡ record (place_at t.places at) { held = Some c } =
    subst (λ k. place_at (held_at t.places other (Some c)) k ≡ record (place_at t.places k) { held = Some c })
    (sym same) (held_at_same t.places other (Some c) (held_there t.places other old held)) in
    let here : (place_at t.places at).held ≡ Some old = ap (λ k. (place_at t.places k).held) same ∙ held in
    record {
      slot =
          ap (has_slot_of peer) new ∙ like.slot peer ∙ ap (holds_slot peer) (sym here) ∙ stands.slot;
      numbered = ap (λ (p : Place). p.number) new ∙ stands.numbered;
    })
    (λ (apart : at ≢ other).
    stands_same peer at number t (record t { places = held_at t.places other (Some c) })
    (held_at_other t.places other at (Some c) apart) stands)
    (cases_eq at other))
stands_or_ends peer at number t other old c brings now Free stands held like is =
    inl (⊎_elim (λ (same : at ≡ other).
    let named = free_is_named t c.standing brings now (sym is) in
    let here : (place_at t.places at).held ≡ Some old = ap (λ k. (place_at t.places k).held) same ∙ held in
    absurd (slot_goes_none peer at number t old c stands here like (ap has_none named.1)))
    (λ (apart : at ≢ other).
    stands_same peer at number t (record t { places = held_at t.places other (Some (with_slot c)) })
    (held_at_other t.places other at (Some (with_slot c)) apart) stands)
    (cases_eq at other))
stands_or_ends peer at number t other old c brings now (Ends gone) stands held like is =
    ⊎_elim (λ (same : at ≡ other).
    let named = ends_is_of t c.standing brings now gone (sym is) in
    let here : (place_at t.places at).held ≡ Some old = ap (λ k. (place_at t.places k).held) same ∙ held in
    absurd (slot_goes_none peer at number t old c stands here like (ap has_none named.1)))
    (λ (apart : at ≢ other).
    ⊎_elim (λ (this : at ≡ gone). inr (ap Ends (sym this)))
    (λ (that : at ≢ gone).
    inl (stands_same peer at number t
    (record t { places = held_at (held_at t.places gone None) other (Some (with_slot c)) })
    (held_at_other (held_at t.places gone None) other at (Some (with_slot c)) apart
    ∙ held_at_other t.places gone at None that) stands))
    (cases_eq at gone))
    (cases_eq at other)

-- a frame opens
opens_ends : (peer at number : ℕ) (t : SlotsValue) (other by now : ℕ) (held : Option Connected) →
    held ≡ (place_at t.places other).held → Stands peer at number t →
    Stands peer at number (held_named t other by now held) ⊎ EndsBy peer at t (Opens other by now)
opens_ends peer at number t other by now None is stands = inl stands
opens_ends peer at number t other by now (Some c) is stands =
    let new = opened_by by now c in
    let left : SlotsValue = record t { places = settled t.places other new (way t new.standing false now) } in
    ⊎_elim (λ (still : Stands peer at number left).
    inl still)
    (λ (gone : way t new.standing false now ≡ Ends at).
    let ends = ends_is_of t new.standing false now at gone in
    let parts = and_parts (has_slot_of ends.0 (place_at t.places at)) _ ends.2 in
    let whose : ends.0 ≡ peer = one_peer_there peer ends.0 (place_at t.places at).held stands.slot parts.0 in
    let spoken : is_spoken peer new.standing ≡ true = ap (is_spoken peer) ends.1 ∙ eq-eqb ends.0 peer whose in
    inr (ap (λ (h : Option Connected). is_spoken_by peer (named_held by now h)) (sym is) ∙ spoken, parts.1))
    (stands_or_ends peer at number t other c new false now (way t new.standing false now) stands (sym is)
    (opened_is_like by c.standing) refl)

-- a packet counts
counts_ends : (peer at number : ℕ) (t : SlotsValue) (other by now : ℕ) (held : Option Connected) →
    (held ≡ None) ⊎ ((held ≡ (place_at t.places other).held) × ((place_at t.places other).number ≡ by)) →
    Stands peer at number t →
    Stands peer at number (held_counted t other now held) ⊎ EndsBy peer at t (Counts other by now)
counts_ends peer at number t other by now None is stands = inl stands
counts_ends peer at number t other by now (Some c) is stands =
    ⊎_elim (λ (none : Some c ≡ None). absurd (cc))
    (λ (there : (Some c ≡ (place_at t.places other).held) × ((place_at t.places other).number ≡ by)).
    let new = counted_now now c in
    let left : SlotsValue = record t { places = settled t.places other new (way t c.standing true now) } in
    ⊎_elim (λ (still : Stands peer at number left).
    inl still)
    (λ (gone : way t c.standing true now ≡ Ends at).
    let ends = ends_is_of t c.standing true now at gone in
    let parts = and_parts (has_slot_of ends.0 (place_at t.places at)) _ ends.2 in
    let whose : ends.0 ≡ peer = one_peer_there peer ends.0 (place_at t.places at).held stands.slot parts.0 in
    inr (record {
      newcomer = ap waits (sym there.0) ∙ ap has_none ends.1;
      spoken = ap (is_spoken_by peer) (sym there.0) ∙ ap (is_spoken peer) ends.1 ∙ eq-eqb ends.0 peer whose;
      numbered = there.1;
    }))
    (stands_or_ends peer at number t other c new true now (way t c.standing true now) stands (sym there.0)
    (same_is_like c.standing) refl))
    is

held_by_number : (p : Place) (number : ℕ) →
    (held_by p number ≡ None) ⊎ ((held_by p number ≡ p.held) × (p.number ≡ number))
held_by_number p number =
    ⊎_elim (λ (same : (p.number == number) ≡ true).
    inr (ap (λ (b : Bool). if b then p.held else None) same, eqb-true p.number number same))
    (λ (apart : (p.number == number) ≡ false). inl (ap (λ (b : Bool). if b then p.held else None) apart))
    (cases_Bool (p.number == number))

-- one ends
ends_ends : (peer at number : ℕ) (t : SlotsValue) (other by : ℕ) → Stands peer at number t →
    Stands peer at number (without t other by) ⊎ (other ≡ at)
ends_ends peer at number t other by stands =
    ⊎_elim (λ (same : at ≡ other). inr (sym same))
    (λ (apart : at ≢ other).
    ⊎_elim (λ (is : ((place_at t.places other).number == by) ≡ true).
    inl (stands_same peer at number t (without t other by)
    (ap (λ (b : Bool). place_at (if b then record t { places = held_at t.places other None } else t).places at) is
    ∙ held_at_other t.places other at None apart) stands))
    (λ (is : ((place_at t.places other).number == by) ≡ false).
    inl (stands_same peer at number t (without t other by)
    (ap (λ (b : Bool). place_at (if b then record t { places = held_at t.places other None } else t).places at) is)
    stands))
    (cases_Bool ((place_at t.places other).number == by)))
    (cases_eq at other)

step_ends : (peer at number : ℕ) (t : SlotsValue) (act : Act) → May t act → Stands peer at number t →
    Stands peer at number (after t act) ⊎ EndsBy peer at t act
step_ends peer at number t (Comes lot now other) may stands =
    let apart : at ≢ other =
    λ same.
    true≢false (sym stands.slot ∙ ap (λ k. has_slot_of peer (place_at t.places k)) same
    ∙ place_is_no_slot peer t lot other may) in
    inl (stands_same peer at number t (after t (Comes lot now other))
    (get_or-set_other t.places other at _ no_place apart) stands)
step_ends peer at number t (Opens other by now) may stands = opens_ends peer at number t other by now _ refl stands
step_ends peer at number t (Counts other by now) may stands =
    counts_ends peer at number t other by now _ (held_by_number (place_at t.places other) by) stands
step_ends peer at number t (EndsAt other by) may stands = ends_ends peer at number t other by stands
step_ends peer at number t (Passes now) may stands =
    let left : is_over now (place_at t.places at) ≡ false =
    ⊎_elim (λ (over : is_over now (place_at t.places at) ≡ true).
    absurd (false≢true (sym (over_is_no_slot peer now (place_at t.places at) over) ∙ stands.slot)))
    (λ (no : is_over now (place_at t.places at) ≡ false). no)
    (cases_Bool (is_over now (place_at t.places at))) in
    inl (stands_same peer at number t (after t (Passes now))
    (place_after_time now t.places at
    ∙ ap (λ (b : Bool). if b then freed (place_at t.places at) else place_at t.places at) left) stands)

pub slots_end_rightly : SlotsEndRightly
slots_end_rightly peer at number t [] may stands = inl stands
slots_end_rightly peer at number t (act ∷ acts) may stands =
    ⊎_elim (λ (still : Stands peer at number (after t act)).
    ⊎_elim (λ (all : Stands peer at number (after_all (after t act) acts)). inl all)
    (λ (ends : EndsIn peer at (after t act) acts). inr (inr ends))
    (slots_end_rightly peer at number (after t act) acts may.1 still))
    (λ (ends : EndsBy peer at t act). inr (inl ends))
    (step_ends peer at number t act may.0 stands)
