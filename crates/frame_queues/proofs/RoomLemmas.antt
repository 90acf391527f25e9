-- Where fewer newcomers are there than may be a place is free: counts of places.
use Rattle.std.proofs.Common.{◌≡◌, ◌≢◌, ◌⊎◌, inl, inr, ⊎_elim, refl, sym, ap, subst, ◌∙◌, ℕ, zero, suc, ◌+◌, ◌-◌, ◌*◌}
use Rattle.std.proofs.Common.{◌<◌, ◌≤◌, arith}
use Rattle.std.proofs.Common.{Bool, true, false, ◌&&◌, not, List, [], ◌∷◌, length, get_or, map, Option, Some, None}
use Rattle.std.proofs.Common.{cond}
use Rattle.std.specs.Prelude.{slice_set, position, count_by, if◌then◌else◌, nat_lt, ◌==◌, MatchBool, is_none, replicate}
use Rattle.std.specs.List.{position_or_len}
use Rattle.std.proofs.lemmas.Bool.{cases_lt, cases_eq, cases_Bool, and_parts, and_left, and_right, and_from}
use Rattle.std.proofs.lemmas.Bool.{not_from_true}
use Rattle.std.proofs.lemmas.Bool.{ltb-true, ltb-false, lt-ltb, le-ltb, eq-eqb, eqb-true, eqb-false, cond_both}
use Rattle.std.proofs.lemmas.Bool.{cond-true, cond-false, not-true, false≢true}
use Rattle.std.proofs.lemmas.Bool.Decides.{nat_tests}
use Rattle.std.proofs.lemmas.List.{length-set, get_or-set_same, get_or-set_other, get_or_past}
use Rattle.std.proofs.lemmas.List.{length-replicate, length-map}
use Rattle.std.proofs.lemmas.List.Sums.{sum_by-cons, sum_by-set, get_or-le-sum_by, fails_before_first}
use Rattle.std.proofs.lemmas.List.Sums.{count_by-le-length}
use Rattle.std.proofs.lemmas.List.Quantifiers.{position-Some}
use Rattle.frame_queues.specs.declared.slots.Standing.{Standing}
use Rattle.frame_queues.specs.declared.slots.Standing.TheVariants.{Unnamed, Named, Slot}
use Rattle.frame_queues.specs.declared.slots.Connected.{Connected}
use Rattle.frame_queues.specs.declared.slots.Place.{Place}
use Rattle.frame_queues.specs.declared.slots.Way.{Way}
use Rattle.frame_queues.specs.declared.slots.Way.TheVariants.{Stays, Free, Ends}
use Rattle.frame_queues.specs.Slots.{SlotsValue, IsTable, IsDrawn, IsPlaceFor, no_place, place_at, held_at, has_slot_of}
use Rattle.frame_queues.specs.Slots.{holds_slot, is_slot, gives_way, is_free, is_newcomer, has_none, waits, slots_for}
use Rattle.frame_queues.specs.Slots.{way}
use Rattle.frame_queues.specs.Limits.{others, places_for}
use Rattle.frame_queues.specs.Slots.{settled, with_slot, in_slot, opened_by, name_of, counted_now, is_over}
use Rattle.frame_queues.specs.Slots.{after_time, freed}
use Rattle.frame_queues.specs.Slots.{came_after, with_newcomer, none_yet, passed, is_least, ends_or_stays, held_by}
use Rattle.frame_queues.proofs.SlotLemmas.{held_there, held_at_same, held_at_other, ends_is_of}

-- one where the test holds
abbrev pub one_if : Bool → ℕ
one_if b = cond b 1 0

pub count_set : {A : Type 0} → (p : A → Bool) (xs : List A) (i : ℕ) (y d : A) → i < length xs →
    count_by p (slice_set xs i y) + one_if (p (get_or xs i d)) ≡ count_by p xs + one_if (p y)
count_set p xs i y d there = sum_by-set (λ x. one_if (p x)) xs i y d there

pub counted_one : {A : Type 0} → (p : A → Bool) (xs : List A) (i : ℕ) (d : A) → i < length xs →
    p (get_or xs i d) ≡ true → 0 < count_by p xs
counted_one p xs i d there is =
    let one : one_if (p (get_or xs i d)) ≡ 1 = ap one_if is in
    omega (arith, one, get_or-le-sum_by (λ x. one_if (p x)) xs i d there)

-- where some are counted there is one
pub some_counted : {A : Type 0} → (p : A → Bool) (xs : List A) (d : A) → 0 < count_by p xs →
    (i : ℕ) × (i < length xs) × (p (get_or xs i d) ≡ true)
some_counted p [] d some = absurd (omega (arith, some))
some_counted p (x ∷ xs) d some =
    ⊎_elim (λ (is : p x ≡ true). (zero, omega arith, is))
    (λ (not_first : p x ≡ false).
    let none : one_if (p x) ≡ 0 = ap one_if not_first in
    let rest = some_counted p xs d (omega (arith, some, none, sum_by-cons (λ y. one_if (p y)) x xs)) in
    (suc rest.0, omega (arith, rest.1), rest.2))
    (cases_Bool (p x))

-- what one test or another counts
pub count_of_two : {A : Type 0} → (p q r : A → Bool) (xs : List A) →
    ((x : A) → one_if (r x) ≤ one_if (p x) + one_if (q x)) →
    count_by r xs ≤ count_by p xs + count_by q xs
count_of_two p q r [] each = omega arith
count_of_two p q r (x ∷ xs) each =
    omega (
      arith,
      each x,
      count_of_two p q r xs each,
      sum_by-cons (λ y. one_if (p y)) x xs,
      sum_by-cons (λ y. one_if (q y)) x xs,
      sum_by-cons (λ y. one_if (r y)) x xs,
    )

-- as many where nothing that is counted comes by a change
pub count_map : {A : Type 0} → (p : A → Bool) (f : A → A) (xs : List A) →
    ((x : A) → one_if (p (f x)) ≤ one_if (p x)) → count_by p (map f xs) ≤ count_by p xs
count_map p f [] each = omega arith
count_map p f (x ∷ xs) each =
    omega (
      arith,
      each x,
      count_map p f xs each,
      sum_by-cons (λ y. one_if (p y)) x xs,
      sum_by-cons (λ y. one_if (p y)) (f x) (map f xs),
    )

-- of places with slots those of the peers below an index, and of any peer
abbrev below : ℕ → Standing → Bool
below n Unnamed = false
below n (Named peer) = false
below n (Slot peer) = nat_lt peer n

abbrev held_below : ℕ → Option Connected → Bool
held_below n None = false
held_below n (Some c) = below n c.standing

abbrev slot_below : ℕ → Place → Bool
slot_below n p = held_below n p.held

abbrev holds_any : Option Connected → Bool
holds_any None = false
holds_any (Some c) = not (has_none c.standing)

abbrev any_slot : Place → Bool
any_slot p = holds_any p.held

abbrev held_beyond : ℕ → Option Connected → Bool
held_beyond n held = holds_any held && not (held_below n held)

-- one of no peer below the index
abbrev slot_beyond : ℕ → Place → Bool
slot_beyond n p = held_beyond n p.held

none_counted : {A : Type 0} → (p : A → Bool) (xs : List A) → ((x : A) → p x ≡ false) → count_by p xs ≡ 0
none_counted p [] none = refl
none_counted p (x ∷ xs) none =
    let first : one_if (p x) ≡ 0 = ap one_if (none x) in
    omega (arith, first, none_counted p xs none, sum_by-cons (λ y. one_if (p y)) x xs)

none_of_zero : (standing : Standing) → below zero standing ≡ false
none_of_zero Unnamed = refl
none_of_zero (Named peer) = refl
none_of_zero (Slot peer) = le-ltb peer zero (omega arith)

standing_below : (n : ℕ) (standing : Standing) →
    one_if (below (suc n) standing) ≤ one_if (below n standing) + one_if (is_slot n standing)
standing_below n Unnamed = omega arith
standing_below n (Named peer) = omega arith
standing_below n (Slot peer) = grind (arith, nat_tests)

standing_beyond : (n : ℕ) (standing : Standing) → (not (has_none standing) && not (below n standing)) ≡ true →
    (peer : ℕ) × (n ≤ peer) × (is_slot peer standing ≡ true)
standing_beyond n Unnamed is = absurd (cc)
standing_beyond n (Named peer) is = absurd (cc)
standing_beyond n (Slot peer) is = (peer, ltb-false peer n (not-true (nat_lt peer n) is), eq-eqb peer peer refl)

one_or_other : (a b : Bool) → one_if a ≤ one_if b + one_if (a && not b)
one_or_other true true = omega arith
one_or_other true false = omega arith
one_or_other false b = omega arith

one_of_two : (a : Bool) → 1 ≤ one_if false + one_if a + one_if (not a)
one_of_two true = omega arith
one_of_two false = omega arith

none_below : (held : Option Connected) → held_below zero held ≡ false
none_below None = refl
none_below (Some c) = none_of_zero c.standing

held_one_below : (n : ℕ) (held : Option Connected) →
    one_if (held_below (suc n) held) ≤ one_if (held_below n held) + one_if (holds_slot n held)
held_one_below n None = omega arith
held_one_below n (Some c) = standing_below n c.standing

beyond_is_of : (n : ℕ) (held : Option Connected) → held_beyond n held ≡ true →
    (peer : ℕ) × (n ≤ peer) × (holds_slot peer held ≡ true)
beyond_is_of n None is = absurd (cc)
beyond_is_of n (Some c) is = standing_beyond n c.standing is

one_of_all : (n : ℕ) (p : Place) → one_if (any_slot p) ≤ one_if (slot_below n p) + one_if (slot_beyond n p)
one_of_all n p = one_or_other (any_slot p) (slot_below n p)

one_of_three : (held : Option Connected) →
    1 ≤ one_if (is_none held) + one_if (waits held) + one_if (holds_any held)
one_of_three None = omega arith
one_of_three (Some c) = one_of_two (has_none c.standing)

pub found_where_one : {A : Type 0} → (p : A → Bool) (xs : List A) (i : ℕ) (d : A) → i < length xs →
    p (get_or xs i d) ≡ true → position p xs ≡ None → ⊥
found_where_one p xs i d there is none =
    ⊎_elim (λ (within : position_or_len p xs < length xs).
    let found : position p xs ≡ Some (position_or_len p xs) =
    cond-true (nat_lt (position_or_len p xs) (length xs)) _ _ (lt-ltb _ _ within) in
    let e : Some (position_or_len p xs) ≡ None = sym found ∙ none in
    cc)
    (λ (past : length xs ≤ position_or_len p xs).
    false≢true (sym (fails_before_first p xs i d (omega (arith, there, past))) ∙ is))
    (cases_lt (position_or_len p xs) (length xs))

-- how many slots there are of the peers below an index
room_below : SlotsValue → ℕ → ℕ
room_below t zero = 0
room_below t (suc n) = room_below t n + slots_for t n

few_for : (t : SlotsValue) (peer : ℕ) → slots_for t peer ≤ t.each
few_for t peer =
    cond_both (nat_lt peer t.nodes && not (peer == t.me)) t.each 0 (λ n. n ≤ t.each) (λ _. omega arith)
    (λ _. omega arith)

none_for_itself : (t : SlotsValue) → slots_for t t.me ≡ 0
none_for_itself t =
    cond-false (nat_lt t.me t.nodes && not (t.me == t.me)) t.each 0
    (and_right (nat_lt t.me t.nodes) (not (t.me == t.me)) (not_from_true (t.me == t.me) (eq-eqb t.me t.me refl)))

none_for_strangers : (t : SlotsValue) (peer : ℕ) → t.nodes ≤ peer → slots_for t peer ≡ 0
none_for_strangers t peer past =
    cond-false (nat_lt peer t.nodes && not (peer == t.me)) t.each 0
    (and_left (nat_lt peer t.nodes) (not (peer == t.me)) (le-ltb peer t.nodes past))

room_before : (t : SlotsValue) (n : ℕ) → n ≤ t.me → room_below t n ≤ t.each * n
unfolding room_below
room_before t zero least = omega arith
room_before t (suc n) least = omega (arith, room_before t n (omega arith), few_for t n)

room_behind : (t : SlotsValue) (n : ℕ) → t.me < n → room_below t n + t.each ≤ t.each * n
unfolding room_below
room_behind t zero less = absurd (omega arith)
room_behind t (suc n) less =
    ⊎_elim (λ (before : t.me < n). omega (arith, room_behind t n before, few_for t n))
    (λ (past : n ≤ t.me).
    let same : t.me ≡ n = omega (arith, less, past) in
    let none : slots_for t n ≡ 0 = ap (slots_for t) (sym same) ∙ none_for_itself t in
    omega (arith, none, room_before t n past))
    (cases_lt t.me n)

room_of_others : (t : SlotsValue) (n : ℕ) → room_below t t.nodes + t.each ≤ t.each * n →
    room_below t t.nodes ≤ t.each * (n - 1)
room_of_others t zero room = omega arith
room_of_others t (suc n) room =
    let e : suc n - 1 ≡ n = omega arith in
    rw e (omega (arith, room))

room_for_all : (t : SlotsValue) → room_below t t.nodes ≤ t.each * others t.nodes t.me
room_for_all t =
    cond_both (nat_lt t.me t.nodes) (t.nodes - 1) t.nodes (λ n. room_below t t.nodes ≤ t.each * n)
    (λ less. room_of_others t t.nodes (room_behind t t.nodes (ltb-true t.me t.nodes less)))
    (λ past. room_before t t.nodes (ltb-false t.me t.nodes past))

-- the slots below an index are no more than there are for these peers
one_below : (n : ℕ) (p : Place) → one_if (slot_below (suc n) p) ≤ one_if (slot_below n p) + one_if (has_slot_of n p)
one_below n p = held_one_below n p.held

slots_below : (t : SlotsValue) → IsTable t → (n : ℕ) → count_by (slot_below n) t.places ≤ room_below t n
unfolding room_below
slots_below t is zero = omega (arith, none_counted (slot_below zero) t.places (λ p. none_below p.held))
slots_below t is (suc n) =
    omega (
      arith,
      count_of_two (slot_below n) (has_slot_of n) (slot_below (suc n)) t.places (one_below n),
      slots_below t is n,
      is.each n,
    )

-- and no slot is of a stranger
none_beyond : (t : SlotsValue) → IsTable t → count_by (slot_beyond t.nodes) t.places ≡ 0
none_beyond t is =
    ⊎_elim (λ (some : 0 < count_by (slot_beyond t.nodes) t.places).
    let one = some_counted (slot_beyond t.nodes) t.places no_place some in
    let whose = beyond_is_of t.nodes (place_at t.places one.0).held one.2 in
    let counted = counted_one (has_slot_of whose.0) t.places one.0 no_place one.1 whose.2 in
    absurd (omega (arith, counted, is.each whose.0, none_for_strangers t whose.0 whose.1)))
    (λ (none : count_by (slot_beyond t.nodes) t.places ≤ 0). omega (arith, none))
    (cases_lt 0 (count_by (slot_beyond t.nodes) t.places))

slots_in_all : (t : SlotsValue) → IsTable t → count_by any_slot t.places ≤ t.each * others t.nodes t.me
slots_in_all t is =
    omega (
      arith,
      count_of_two (slot_below t.nodes) (slot_beyond t.nodes) any_slot t.places (one_of_all t.nodes),
      slots_below t is t.nodes,
      none_beyond t is,
      room_for_all t,
    )

-- each place is free, a newcomer's or a slot's
length_of_three : (places : List Place) →
    length places ≤ count_by is_free places + count_by is_newcomer places + count_by any_slot places
length_of_three [] = omega arith
length_of_three (p ∷ places) =
    omega (
      arith,
      length_of_three places,
      one_of_three p.held,
      sum_by-cons (λ q. one_if (is_free q)) p places,
      sum_by-cons (λ q. one_if (is_newcomer q)) p places,
      sum_by-cons (λ q. one_if (any_slot q)) p places,
    )

-- where fewer newcomers are there than may be, a place is free
pub one_is_free : (t : SlotsValue) → IsTable t → count_by is_newcomer t.places < t.newcomers →
    position is_free t.places ≡ None → ⊥
one_is_free t is few none =
    let some : 0 < count_by is_free t.places =
    omega (arith, few, is.size, slots_in_all t is, length_of_three t.places) in
    let one = some_counted is_free t.places no_place some in
    found_where_one is_free t.places one.0 no_place one.1 one.2 none
