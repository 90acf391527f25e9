-- Where a peer's slots give way there is one that does: a newcomer that brings something new gets in.
use Rattle.std.proofs.Common.{◌≡◌, ◌≢◌, ◌⊎◌, inl, inr, ⊎_elim, refl, sym, ap, subst, ◌∙◌, ℕ, zero, suc, ◌+◌, ◌<◌, ◌≤◌}
use Rattle.std.proofs.Common.{arith}
use Rattle.std.proofs.Common.{Bool, true, false, ◌&&◌, ◌||◌, List, [], ◌∷◌, length, get_or, Option, Some, None}
use Rattle.std.specs.Prelude.{slice_set, position, count_by, if◌then◌else◌, nat_lt, ◌==◌}
use Rattle.std.proofs.lemmas.Bool.{cases_lt, cases_eq, cases_Bool, and_parts, and_right, and_from, or_cases, or_left}
use Rattle.std.proofs.lemmas.Bool.{or_right}
use Rattle.std.proofs.lemmas.Bool.{false≢true, ltb-true, ltb-false, lt-ltb, eqb-true, eq-eqb, le-ltb, cond-true}
use Rattle.std.proofs.lemmas.Bool.{cond-false}
use Rattle.std.proofs.lemmas.Bool.{false_from_ne_true}
use Rattle.std.proofs.lemmas.List.{get_or-set_same, length-set, set_past}
use Rattle.std.proofs.lemmas.List.Sums.{sum_by-cons, sum_by-le-sum_by}
use Rattle.frame_queues.specs.declared.slots.Standing.{Standing}
use Rattle.frame_queues.specs.declared.slots.Standing.TheVariants.{Unnamed, Named, Slot}
use Rattle.frame_queues.specs.declared.slots.Connected.{Connected}
use Rattle.frame_queues.specs.declared.slots.Place.{Place}
use Rattle.frame_queues.specs.declared.slots.Way.{Way}
use Rattle.frame_queues.specs.declared.slots.Way.TheVariants.{Stays, Free, Ends}
use Rattle.frame_queues.specs.Slots.{SlotsValue, IsTable, no_place, place_at, held_at, has_slot_of, is_slot}
use Rattle.frame_queues.specs.Slots.{gives_way, is_least}
use Rattle.frame_queues.specs.Slots.{comes_before, is_before, slots_for, ends_or_stays, way, settled, with_slot}
use Rattle.frame_queues.specs.Slots.{in_slot}
use Rattle.frame_queues.specs.Slots.{has_none, waits, held_by, held_counted, counted_now}
use Rattle.frame_queues.specs.Moments.{after, is_spoken, is_spoken_by, Stands, IsWaiting, WhoBringsNewGetsIn}
use Rattle.frame_queues.specs.Moments.Act.{Counts}
use Rattle.frame_queues.proofs.SlotLemmas.{held_there, held_at_same, held_at_other}
use Rattle.frame_queues.proofs.RoomLemmas.{one_if, some_counted, found_where_one}

-- less by the first of two numbers, or by the second where the first are equal
abbrev less_two : ℕ → ℕ → ℕ → ℕ → Bool
less_two a b c d = nat_lt a c || ((a == c) && nat_lt b d)

tells_less : (a b c d : ℕ) → less_two a b c d ≡ true → (a < c) ⊎ ((a ≡ c) × (b < d))
tells_less a b c d is =
    ⊎_elim (λ (less : nat_lt a c ≡ true). inl (ltb-true a c less))
    (λ (same : ((a == c) && nat_lt b d) ≡ true).
    let parts = and_parts (a == c) (nat_lt b d) same in
    inr (eqb-true a c parts.0, ltb-true b d parts.1))
    (or_cases (nat_lt a c) ((a == c) && nat_lt b d) is)

less_from : (a b c d : ℕ) → (a < c) ⊎ ((a ≡ c) × (b < d)) → less_two a b c d ≡ true
less_from a b c d is =
    ⊎_elim (λ (less : a < c). or_left (nat_lt a c) ((a == c) && nat_lt b d) (lt-ltb a c less))
    (λ (same : (a ≡ c) × (b < d)).
    or_right (nat_lt a c) ((a == c) && nat_lt b d)
    (and_from (a == c) (nat_lt b d) (eq-eqb a c same.0) (lt-ltb b d same.1)))
    is

less_less : (a b c d e f : ℕ) → (a < c) ⊎ ((a ≡ c) × (b < d)) → (c < e) ⊎ ((c ≡ e) × (d < f)) →
    (a < e) ⊎ ((a ≡ e) × (b < f))
less_less a b c d e f one two =
    ⊎_elim (λ (x : a < c).
    ⊎_elim (λ (y : c < e). inl (omega (arith, x, y))) (λ (y : (c ≡ e) × (d < f)). inl (omega (arith, x, y.0))) two)
    (λ (x : (a ≡ c) × (b < d)).
    ⊎_elim (λ (y : c < e). inl (omega (arith, x.0, y)))
    (λ (y : (c ≡ e) × (d < f)). inr (omega (arith, x.0, y.0), omega (arith, x.1, y.1))) two)
    one

before_before : (a b c : Option Connected) → comes_before a b ≡ true → comes_before b c ≡ true →
    comes_before a c ≡ true
before_before None b c one two = absurd (false≢true one)
before_before (Some a) None c one two = absurd (false≢true one)
before_before (Some a) (Some b) None one two = absurd (false≢true two)
before_before (Some a) (Some b) (Some c) one two =
    less_from a.counted a.began c.counted c.began
    (less_less a.counted a.began b.counted b.began c.counted c.began
    (tells_less a.counted a.began b.counted b.began one) (tells_less b.counted b.began c.counted c.began two))

never_itself : (a : Option Connected) → comes_before a a ≡ false
never_itself None = refl
never_itself (Some a) =
    false_from_ne_true (comes_before (Some a) (Some a))
    (λ is.
    ⊎_elim (λ (less : a.counted < a.counted). omega (arith, less))
    (λ (same : (a.counted ≡ a.counted) × (a.began < a.began)). omega (arith, same.1))
    (tells_less a.counted a.began a.counted a.began is))

-- how many that pass come before a place
abbrev before_it : (Place → Bool) → Place → List Place → ℕ
before_it gives p places = count_by (λ other. gives other && is_before other p) places

before_more : (gives : Place → Bool) (p x : Place) (places : List Place) →
    before_it gives p (x ∷ places) ≡ one_if (gives x && is_before x p) + before_it gives p places
before_more gives p x places = sum_by-cons (λ other. one_if (gives other && is_before other p)) x places

one_before : (a b c : Bool) → (b ≡ true → c ≡ true) → one_if (a && b) ≤ one_if (a && c)
one_before false b c so = omega arith
one_before true false c so = omega arith
one_before true true c so = omega (arith, ap one_if (so refl))

one_of_and : (a b : Bool) → one_if (a && b) ≤ one_if a
one_of_and true true = omega arith
one_of_and true false = omega arith
one_of_and false b = omega arith

none_before : (gives : Place → Bool) (p : Place) (places : List Place) → count_by gives places ≤ 0 →
    before_it gives p places ≤ 0
none_before gives p places none =
    omega (
      arith,
      none,
      sum_by-le-sum_by (λ other. one_if (gives other && is_before other p)) (λ other. one_if (gives other)) places
          (λ other. one_of_and (gives other) (is_before other p)),
    )

-- the first one is least where none of the others comes before it
least_first : (gives : Place → Bool) (x : Place) (places : List Place) → before_it gives x places ≤ 0 →
    before_it gives x (x ∷ places) ≡ 0
least_first gives x places none =
    let itself : one_if (gives x && is_before x x) ≡ 0 =
    ap one_if (and_right (gives x) (is_before x x) (never_itself x.held)) in
    omega (arith, itself, none, before_more gives x x places)

only_first : (gives : Place → Bool) (x : Place) (places : List Place) → 0 < count_by gives (x ∷ places) →
    count_by gives places ≤ 0 → gives x ≡ true
only_first gives x places some none =
    ⊎_elim (λ (is : gives x ≡ true). is)
    (λ (no : gives x ≡ false).
    let zero_first : one_if (gives x) ≡ 0 = ap one_if no in
    absurd (omega (arith, some, none, zero_first, sum_by-cons (λ y. one_if (gives y)) x places)))
    (cases_Bool (gives x))

-- fewer come before one that comes before another
fewer_before : (gives : Place → Bool) (p q : Place) (places : List Place) → is_before q p ≡ true →
    before_it gives q places ≤ before_it gives p places
fewer_before gives p q places less =
    sum_by-le-sum_by (λ other. one_if (gives other && is_before other q))
    (λ other. one_if (gives other && is_before other p)) places
    (λ other. one_before (gives other) (is_before other q) (is_before other p)
    (λ is. before_before other.held q.held p.held is less))

least_of : (gives : Place → Bool) (places : List Place) → 0 < count_by gives places →
    (i : ℕ) × (i < length places) × (gives (place_at places i) ≡ true)
    × (before_it gives (place_at places i) places ≡ 0)
least_of gives [] some = absurd (omega (arith, some))
least_of gives (x ∷ places) some =
    ⊎_elim (λ (rest : 0 < count_by gives places).
    let found = least_of gives places rest in
    let m = place_at places found.0 in
    ⊎_elim (λ (first : (gives x && is_before x m) ≡ true).
    let parts = and_parts (gives x) (is_before x m) first in (
      zero,
      omega arith,
      parts.0,
      least_first gives x places (omega (arith, found.3, fewer_before gives m x places parts.1)),
    ))
    (λ (later : (gives x && is_before x m) ≡ false).
    let none : one_if (gives x && is_before x m) ≡ 0 = ap one_if later in
    (suc found.0, omega (arith, found.1), found.2, omega (arith, none, found.3, before_more gives m x places)))
    (cases_Bool (gives x && is_before x m)))
    (λ (none : count_by gives places ≤ 0).
    let is : gives x ≡ true = only_first gives x places some none in
    (zero, omega arith, is, least_first gives x places (none_before gives x places none)))
    (cases_lt 0 (count_by gives places))

one_and_true : (a : Bool) → one_if a ≤ one_if (a && true)
one_and_true true = omega arith
one_and_true false = omega arith

-- a slot gives way to who brings something new
new_gives : (peer now : ℕ) (p : Place) → one_if (has_slot_of peer p) ≤ one_if (gives_way peer true now p)
new_gives peer now p = one_and_true (has_slot_of peer p)

least_found : (t : SlotsValue) (peer now : ℕ) → 0 < count_by (has_slot_of peer) t.places →
    position (is_least t.places peer true now) t.places ≡ None → ⊥
least_found t peer now some none =
    let enough : 0 < count_by (gives_way peer true now) t.places =
    omega (
      arith,
      some,
      sum_by-le-sum_by (λ p. one_if (has_slot_of peer p)) (λ p. one_if (gives_way peer true now p)) t.places
          (new_gives peer now),
    ) in
    let found = least_of (gives_way peer true now) t.places enough in
    found_where_one (is_least t.places peer true now) t.places found.0 no_place found.1
    (and_from (gives_way peer true now (place_at t.places found.0)) _ found.2 (eq-eqb _ 0 found.3)) none

-- the way of who brings something new leads into a slot
slot_or_ends : (few : Bool) (found : Option ℕ) → (few ≡ false → found ≡ None → ⊥) →
    (if few then Free else ends_or_stays found) ≡ Stays → ⊥
slot_or_ends true found some is = absurd (cc)
slot_or_ends false None some is = some refl refl
slot_or_ends false (Some at) some is = absurd (cc)

number_stays : (places : List Place) (at k : ℕ) (held : Option Connected) →
    (place_at (held_at places at held) k).number ≡ (place_at places k).number
number_stays places at k held =
    ⊎_elim (λ (same : k ≡ at).
    ⊎_elim (λ (there : at < length places).
    ap (λ n. (place_at (held_at places at held) n).number) same
    ∙ ap (λ (p : Place). p.number) (held_at_same places at held there)
    ∙ ap (λ n. (place_at places n).number) (sym same))
    (λ (past : length places ≤ at).
    ap (λ ps. (place_at ps k).number) (set_past places at (record (place_at places at) { held = held }) past))
    (cases_lt at (length places)))
    (λ (apart : k ≢ at). ap (λ (p : Place). p.number) (held_at_other places at k held apart))
    (cases_eq k at)

-- who goes such a way has a slot
in_slot_now : (peer at number : ℕ) (t : SlotsValue) (c : Connected) (w : Way) → at < length t.places →
    (place_at t.places at).number ≡ number → c.standing ≡ Named peer → (w ≡ Stays → ⊥) →
    Stands peer at number (record t { places = settled t.places at c w })
in_slot_now peer at number t c Stays there same named goes = absurd (goes refl)
in_slot_now peer at number t c Free there same named goes = record {
  slot =
      ap (has_slot_of peer) (held_at_same t.places at (Some (with_slot c)) there)
      ∙ ap (λ s. is_slot peer (in_slot s)) named ∙ eq-eqb peer peer refl;
  numbered = number_stays t.places at at (Some (with_slot c)) ∙ same;
}
in_slot_now peer at number t c (Ends other) there same named goes = record {
  slot =
      ap (has_slot_of peer)
      (held_at_same (held_at t.places other None) at (Some (with_slot c))
      (rw length-set there))
      ∙ ap (λ s. is_slot peer (in_slot s)) named ∙ eq-eqb peer peer refl;
  numbered =
      number_stays (held_at t.places other None) at at (Some (with_slot c))
      ∙ number_stays t.places other at None ∙ same;
}

waiting_is_named : (peer : ℕ) (standing : Standing) → has_none standing ≡ true → is_spoken peer standing ≡ true →
    standing ≡ Named peer
waiting_is_named peer Unnamed none spoken = absurd (false≢true spoken)
waiting_is_named peer (Named by) none spoken = ap Named (eqb-true by peer spoken)
waiting_is_named peer (Slot by) none spoken = absurd (false≢true none)

gets_in : (peer at number now : ℕ) (t : SlotsValue) (held : Option Connected) → IsTable t → 0 < slots_for t peer →
    IsWaiting peer at number t → held ≡ (place_at t.places at).held →
    Stands peer at number (held_counted t at now held)
gets_in peer at number now t None is some waiting held =
    absurd (false≢true (ap waits held ∙ waiting.newcomer))
gets_in peer at number now t (Some c) is some waiting held =
    let named = waiting_is_named peer c.standing (ap waits held ∙ waiting.newcomer)
    (ap (is_spoken_by peer) held ∙ waiting.spoken) in
    let few = nat_lt (count_by (has_slot_of peer) t.places) (slots_for t peer) in
    in_slot_now peer at number t (counted_now now c) (way t c.standing true now)
    (held_there t.places at c (sym held)) waiting.numbered named
    (λ stays.
    slot_or_ends few (position (is_least t.places peer true now) t.places)
    (λ no none.
    least_found t peer now (omega (arith, some, ltb-false _ _ no)) none)
    (ap (λ s. way t s true now) (sym named) ∙ stays))

pub who_brings_new_gets_in : WhoBringsNewGetsIn
who_brings_new_gets_in peer at number now t is some waiting =
    let p = place_at t.places at in
    let here : held_by p number ≡ p.held =
    cond-true (p.number == number) p.held None (eq-eqb p.number number waiting.numbered) in
    gets_in peer at number now t (held_by p number) is some waiting here
