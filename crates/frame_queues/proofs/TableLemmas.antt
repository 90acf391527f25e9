-- Places of connections stay a table: no peer has more slots than it may have, nor are there more newcomers.
use Rattle.std.proofs.Common.{◌≡◌, ◌≢◌, ◌⊎◌, inl, inr, ⊎_elim, refl, sym, ap, subst, ◌∙◌, ℕ, zero, suc, ◌+◌, ◌-◌, ◌*◌}
use Rattle.std.proofs.Common.{◌<◌, ◌≤◌, arith}
use Rattle.std.proofs.Common.{Bool, true, false, ◌&&◌, not, List, [], ◌∷◌, length, get_or, map, Option, Some, None}
use Rattle.std.proofs.Common.{cond}
use Rattle.std.specs.Prelude.{slice_set, position, count_by, if◌then◌else◌, nat_lt, ◌==◌, MatchBool, is_none, replicate}
use Rattle.std.specs.List.{position_or_len}
use Rattle.std.proofs.lemmas.Bool.{cases_lt, cases_eq, cases_Bool, and_parts, and_left, and_right, and_from}
use Rattle.std.proofs.lemmas.Bool.{not_from_true}
use Rattle.std.proofs.lemmas.Bool.{ltb-true, ltb-false, lt-ltb, le-ltb, eq-eqb, eqb-true, eqb-false, cond_both}
use Rattle.std.proofs.lemmas.Bool.{cond-true, cond-false, not-true, false≢true}
use Rattle.std.proofs.lemmas.Bool.Decides.{nat_tests}
use Rattle.std.proofs.lemmas.List.{length-set, get_or-set_same, get_or-set_other, get_or_past}
use Rattle.std.proofs.lemmas.List.{length-replicate, length-map}
use Rattle.std.proofs.lemmas.List.Sums.{sum_by-cons, sum_by-set, get_or-le-sum_by, fails_before_first}
use Rattle.std.proofs.lemmas.List.Sums.{count_by-le-length}
use Rattle.std.proofs.lemmas.List.Quantifiers.{position-Some}
use Rattle.frame_queues.specs.declared.slots.Standing.{Standing}
use Rattle.frame_queues.specs.declared.slots.Standing.TheVariants.{Unnamed, Named, Slot}
use Rattle.frame_queues.specs.declared.slots.Connected.{Connected}
use Rattle.frame_queues.specs.declared.slots.Place.{Place}
use Rattle.frame_queues.specs.declared.slots.Way.{Way}
use Rattle.frame_queues.specs.declared.slots.Way.TheVariants.{Stays, Free, Ends}
use Rattle.frame_queues.specs.Slots.{SlotsValue, IsTable, IsDrawn, IsPlaceFor, no_place, place_at, held_at, has_slot_of}
use Rattle.frame_queues.specs.Slots.{holds_slot, is_slot, gives_way, is_free, is_newcomer, has_none, waits, slots_for}
use Rattle.frame_queues.specs.Slots.{way}
use Rattle.frame_queues.specs.Limits.{others, places_for}
use Rattle.frame_queues.specs.Slots.{settled, with_slot, in_slot, opened_by, name_of, counted_now, is_over}
use Rattle.frame_queues.specs.Slots.{after_time, freed}
use Rattle.frame_queues.specs.Slots.{came_after, with_newcomer, none_yet, passed, is_least, ends_or_stays, held_by}
use Rattle.frame_queues.proofs.SlotLemmas.{held_there, held_at_same, held_at_other, ends_is_of}
use Rattle.frame_queues.proofs.RoomLemmas.{one_if, count_set, count_map}

-- A place changes, where no peer comes to have a slot more than before, but of one that has fewer than it may have.
-- (`with_place` is the table with this place so.)
abbrev with_place : SlotsValue → ℕ → Place → SlotsValue
with_place t at p = record t { places = slice_set t.places at p }

-- fewer newcomers, or room for one
pub table_with : (t : SlotsValue) (at : ℕ) (p : Place) → IsTable t → at < length t.places →
    ((peer : ℕ) → count_by (has_slot_of peer) t.places + one_if (has_slot_of peer p)
    ≤ slots_for t peer + one_if (has_slot_of peer (place_at t.places at))) →
    count_by is_newcomer t.places + one_if (is_newcomer p)
    ≤ t.newcomers + one_if (is_newcomer (place_at t.places at)) →
    IsTable (with_place t at p)
table_with t at p is there each newcomers = record {
  size = length-set t.places at p ∙ is.size;
  some = is.some;
  each = λ peer. omega (arith, each peer, count_set (has_slot_of peer) t.places at p no_place there);
  newcomers = omega (arith, newcomers, count_set is_newcomer t.places at p no_place there);
}

-- the change of a place takes no slot and no newcomer's room
pub table_with_less : (t : SlotsValue) (at : ℕ) (p : Place) → IsTable t → at < length t.places →
    ((peer : ℕ) → one_if (has_slot_of peer p) ≤ one_if (has_slot_of peer (place_at t.places at))) →
    one_if (is_newcomer p) ≤ one_if (is_newcomer (place_at t.places at)) →
    IsTable (with_place t at p)
table_with_less t at p is there each newcomers =
    table_with t at p is there (λ peer. omega (arith, each peer, is.each peer)) (omega (arith, newcomers, is.newcomers))

-- whether it has a slot, and whose, stays
pub record IsLike (old new : Standing) : Type 0 where
  pub slot : (peer : ℕ) → is_slot peer new ≡ is_slot peer old
  pub none : has_none new ≡ has_none old

pub slot_waits : (peer : ℕ) (standing : Standing) → has_none standing ≡ true → is_slot peer standing ≡ true → ⊥
slot_waits peer Unnamed none slot = false≢true slot
slot_waits peer (Named by) none slot = false≢true slot
slot_waits peer (Slot by) none slot = false≢true none

slot_there : (places : List Place) (at peer : ℕ) → has_slot_of peer (place_at places at) ≡ true → at < length places
slot_there places at peer slot =
    ⊎_elim (λ (less : at < length places). less)
    (λ (past : length places ≤ at).
    absurd (false≢true (sym (ap (has_slot_of peer) (get_or_past places at no_place past)) ∙ slot)))
    (cases_lt at (length places))

newcomer_is_there : (places : List Place) (at : ℕ) → is_newcomer (place_at places at) ≡ true → at < length places
newcomer_is_there places at newcomer =
    ⊎_elim (λ (less : at < length places). less)
    (λ (past : length places ≤ at).
    absurd (false≢true (sym (ap is_newcomer (get_or_past places at no_place past)) ∙ newcomer)))
    (cases_lt at (length places))

free_chosen : (b : Bool) (found : Option ℕ) → (if b then Free else ends_or_stays found) ≡ Free → b ≡ true
free_chosen true found is = refl
free_chosen false None is = absurd (cc)
free_chosen false (Some at) is = absurd (cc)

pub free_is_named : (t : SlotsValue) (standing : Standing) (brings : Bool) (now : ℕ) →
    way t standing brings now ≡ Free →
    (peer : ℕ) × (standing ≡ Named peer) × (count_by (has_slot_of peer) t.places < slots_for t peer)
free_is_named t Unnamed brings now is = absurd (cc)
free_is_named t (Slot peer) brings now is = absurd (cc)
free_is_named t (Named peer) brings now is = (
  peer,
  refl,
  ltb-true _ _ (free_chosen (nat_lt (count_by (has_slot_of peer) t.places) (slots_for t peer))
      (position (is_least t.places peer brings now) t.places) is),
)

one_more : (t : SlotsValue) (other peer : ℕ) → IsTable t → count_by (has_slot_of peer) t.places < slots_for t peer →
    count_by (has_slot_of other) t.places + one_if (peer == other) ≤ slots_for t other
one_more t other peer is fewer =
    ⊎_elim (λ (same : (peer == other) ≡ true).
    let e : peer ≡ other = eqb-true peer other same in
    let one : one_if (peer == other) ≡ 1 = ap one_if same in
    subst (λ k. count_by (has_slot_of k) t.places + one_if (peer == other) ≤ slots_for t k) e
    (omega (arith, fewer, one)))
    (λ (apart : (peer == other) ≡ false).
    let none : one_if (peer == other) ≡ 0 = ap one_if apart in
    omega (arith, none, is.each other))
    (cases_Bool (peer == other))

none_in_replicate : (p : Place → Bool) (n : ℕ) → p no_place ≡ false → count_by p (replicate n no_place) ≡ 0
none_in_replicate p zero none = refl
none_in_replicate p (suc n) none =
    let first : one_if (p no_place) ≡ 0 = ap one_if none in
    omega (
      arith,
      first,
      none_in_replicate p n none,
      sum_by-cons (λ y. one_if (p y)) no_place (replicate n no_place),
    )

newcomer_fits : (t : SlotsValue) (lot now at : ℕ) → IsTable t → (few : Bool) →
    nat_lt (count_by is_newcomer t.places) t.newcomers ≡ few →
    MatchBool few (position is_free t.places ≡ Some at) (IsDrawn t.places lot at) →
    IsTable (with_newcomer t now at)
newcomer_fits t lot now at is true few place =
    let there = (position-Some is_free t.places at no_place place).0 in
    let less = ltb-true (count_by is_newcomer t.places) t.newcomers few in
    table_with t at (came_after (place_at t.places at).number now) is there
    (λ peer. omega (arith, is.each peer)) (omega (arith, less))
newcomer_fits t lot now at is false few drawn =
    let one : one_if (is_newcomer (place_at t.places at)) ≡ 1 = ap one_if drawn.newcomer in
    table_with_less t at (came_after (place_at t.places at).number now) is drawn.there
    (λ peer. omega arith) (omega (arith, one))

newcomer_within : (t : SlotsValue) (lot at : ℕ) → (few : Bool) →
    MatchBool few (position is_free t.places ≡ Some at) (IsDrawn t.places lot at) → at < length t.places
newcomer_within t lot at true place = (position-Some is_free t.places at no_place place).0
newcomer_within t lot at false drawn = drawn.there

less_after_time : (p : Place → Bool) (now : ℕ) (place : Place) → p (freed place) ≡ false →
    one_if (p (after_time now place)) ≤ one_if (p place)
less_after_time p now place none =
    ⊎_elim (λ (over : is_over now place ≡ true).
    let gone : one_if (p (after_time now place)) ≡ 0 =
    ap (λ (b : Bool). one_if (p (if b then freed place else place))) over ∙ ap one_if none in
    omega (arith, gone))
    (λ (left : is_over now place ≡ false).
    let same : one_if (p (after_time now place)) ≡ one_if (p place) =
    ap (λ (b : Bool). one_if (p (if b then freed place else place))) left in
    omega (arith, same))
    (cases_Bool (is_over now place))

-- a newcomer comes
pub table_with_newcomer : (t : SlotsValue) (lot now at : ℕ) → IsTable t → IsPlaceFor t lot at →
    IsTable (with_newcomer t now at)
table_with_newcomer t lot now at is place =
    newcomer_fits t lot now at is (nat_lt (count_by is_newcomer t.places) t.newcomers) refl place

pub newcomer_there : (t : SlotsValue) (lot at : ℕ) → IsPlaceFor t lot at → at < length t.places
newcomer_there t lot at place =
    newcomer_within t lot at (nat_lt (count_by is_newcomer t.places) t.newcomers) place

-- the time passes
pub table_passed : (t : SlotsValue) (now : ℕ) → IsTable t → IsTable (passed t now)
table_passed t now is = record {
  size = length-map t.places (after_time now) ∙ is.size;
  some = is.some;
  each = λ peer.
      omega (
        arith,
        is.each peer,
        count_map (has_slot_of peer) (after_time now) t.places (λ p. less_after_time (has_slot_of peer) now p refl),
      );
  newcomers =
      omega (
        arith,
        is.newcomers,
        count_map is_newcomer (after_time now) t.places (λ p. less_after_time is_newcomer now p refl),
      );
}

-- a newcomer takes a slot of its peer, which has fewer than it may have
table_takes : (t : SlotsValue) (at peer : ℕ) (old c : Connected) → IsTable t →
    (place_at t.places at).held ≡ Some old → IsLike old.standing c.standing → c.standing ≡ Named peer →
    count_by (has_slot_of peer) t.places < slots_for t peer →
    IsTable (with_place t at (record (place_at t.places at) { held = Some (with_slot c) }))
table_takes t at peer old c is held like named fewer =
    let slot : in_slot c.standing ≡ Slot peer = ap in_slot named in
    let was : one_if (is_newcomer (place_at t.places at)) ≡ 1 =
    ap (λ h. one_if (waits h)) held ∙ ap one_if (sym like.none ∙ ap has_none named) in
    let has : one_if (has_none (in_slot c.standing)) ≡ 0 = ap (λ s. one_if (has_none s)) slot in
    table_with t at (record (place_at t.places at) { held = Some (with_slot c) }) is (held_there t.places at old held)
    (λ other.
    let more = one_more t other peer is fewer in
    let same : one_if (is_slot other (in_slot c.standing)) ≡ one_if (peer == other) =
    ap (λ s. one_if (is_slot other s)) slot in
    omega (arith, more, same))
    (omega (arith, is.newcomers, was, has))

-- a connection goes its way
pub table_settled : (t : SlotsValue) (at : ℕ) (old c : Connected) (brings : Bool) (now : ℕ) (w : Way) → IsTable t →
    (place_at t.places at).held ≡ Some old → IsLike old.standing c.standing → w ≡ way t c.standing brings now →
    IsTable (record t { places = settled t.places at c w })
table_settled t at old c brings now Stays is held like w =
    table_with_less t at (record (place_at t.places at) { held = Some c }) is (held_there t.places at old held)
    (λ peer.
    let before : one_if (has_slot_of peer (place_at t.places at)) ≡ one_if (is_slot peer old.standing) =
    ap (λ h. one_if (holds_slot peer h)) held in
    let same : one_if (is_slot peer c.standing) ≡ one_if (is_slot peer old.standing) = ap one_if (like.slot peer) in
    omega (arith, before, same))
    (let before : one_if (is_newcomer (place_at t.places at)) ≡ one_if (has_none old.standing) =
    ap (λ h. one_if (waits h)) held in
    let same : one_if (has_none c.standing) ≡ one_if (has_none old.standing) = ap one_if like.none in
    omega (arith, before, same))
table_settled t at old c brings now Free is held like w =
    let free = free_is_named t c.standing brings now (sym w) in
    table_takes t at free.0 old c is held like free.1 free.2
table_settled t at old c brings now (Ends other) is held like w =
    let ends = ends_is_of t c.standing brings now other (sym w) in
    let gives = (and_parts (has_slot_of ends.0 (place_at t.places other)) _ ends.2).0 in
    let there = slot_there t.places other ends.0 gives in
    let gone = record (place_at t.places other) { held = None } in
    let less : IsTable (with_place t other gone) =
    table_with_less t other gone is there (λ peer. omega arith) (omega arith) in
    let apart : at ≢ other =
    λ same.
    slot_waits ends.0 old.standing (sym like.none ∙ ap has_none ends.1)
    (ap (holds_slot ends.0) (sym held) ∙ ap (λ k. has_slot_of ends.0 (place_at t.places k)) same ∙ gives) in
    let stays : place_at (slice_set t.places other gone) at ≡ place_at t.places at =
    get_or-set_other t.places other at gone no_place apart in
    let one : one_if (has_slot_of ends.0 (place_at t.places other)) ≡ 1 = ap one_if gives in
    let fewer : count_by (has_slot_of ends.0) (slice_set t.places other gone) < slots_for t ends.0 =
    omega (arith, one, is.each ends.0, count_set (has_slot_of ends.0) t.places other gone no_place there) in
    table_takes (with_place t other gone) at ends.0 old c less (ap (λ (p : Place). p.held) stays ∙ held) like ends.1
    fewer

-- by a frame of a peer, or a packet that counts
pub opened_is_like : (peer : ℕ) (standing : Standing) → IsLike standing (name_of peer standing)
opened_is_like peer Unnamed = record { slot = λ other. refl; none = refl }
opened_is_like peer (Named by) = record { slot = λ other. refl; none = refl }
opened_is_like peer (Slot by) = record { slot = λ other. refl; none = refl }

pub same_is_like : (standing : Standing) → IsLike standing standing
same_is_like standing = record { slot = λ other. refl; none = refl }

-- none yet
pub table_none_yet : (nodes me each newcomers : ℕ) → 0 < newcomers → IsTable (none_yet nodes me each newcomers)
table_none_yet nodes me each newcomers some = record {
  size = length-replicate (places_for nodes me each newcomers) no_place;
  some = some;
  each = λ peer. omega (arith, none_in_replicate (has_slot_of peer) (places_for nodes me each newcomers) refl);
  newcomers = omega (arith, none_in_replicate is_newcomer (places_for nodes me each newcomers) refl);
}

-- one ends
pub table_gone : (t : SlotsValue) (at : ℕ) → IsTable t → at < length t.places →
    IsTable (record t { places = held_at t.places at None })
table_gone t at is there =
    table_with_less t at (record (place_at t.places at) { held = None }) is there (λ peer. omega arith) (omega arith)

held_there_by : (p : Place) (number : ℕ) (old : Connected) → held_by p number ≡ Some old → p.held ≡ Some old
held_there_by p number old held =
    ⊎_elim (λ (same : (p.number == number) ≡ true). sym (ap (λ (b : Bool). if b then p.held else None) same) ∙ held)
    (λ (apart : (p.number == number) ≡ false).
    let none : held_by p number ≡ None = ap (λ (b : Bool). if b then p.held else None) apart in
    absurd (cc))
    (cases_Bool (p.number == number))

-- the table as a call saw it, with the newcomers of this one
abbrev seen : SlotsValue → List Place → ℕ → ℕ → ℕ → SlotsValue
seen t places nodes me each = record {
  places = places;
  nodes = nodes;
  me = me;
  each = each;
  newcomers = t.newcomers;
}

seen_same : (t : SlotsValue) (places : List Place) (nodes me each : ℕ) → places ≡ t.places → nodes ≡ t.nodes →
    me ≡ t.me → each ≡ t.each → seen t places nodes me each ≡ t
seen_same t places nodes me each a b c d =
    ap (λ ps. seen t ps nodes me each) a
    ∙ ap (λ n. seen t t.places n me each) b
    ∙ ap (λ n. seen t t.places t.nodes n each) c
    ∙ ap (λ n. seen t t.places t.nodes t.me n) d

-- as the calls leave it, which read these lists and numbers
pub table_named : (t : SlotsValue) (us : List Place) (nodes me each at peer now : ℕ) (p : Place) (old c : Connected)
    (w : Way)
    (read wrote places : List Place) → IsTable t → p ≡ place_at read at → p.held ≡ Some old →
    c ≡ opened_by peer now old → w ≡ way (seen t us nodes me each) c.standing false now →
    places ≡ settled wrote at c w →
    read ≡ t.places → wrote ≡ t.places → us ≡ t.places → nodes ≡ t.nodes → me ≡ t.me → each ≡ t.each →
    IsTable (record t { places = places })
table_named t us nodes me each at peer now p old c w read wrote places is looked held opened goes settle same_read
    same_wrote a b d e =
    subst (λ ps. IsTable (record t { places = ps }))
    (sym (settle ∙ ap (λ ps. settled ps at c w) same_wrote))
    (table_settled t at old c false now w is
    (ap (λ ps. (place_at ps at).held) (sym same_read) ∙ ap (λ (q : Place). q.held) (sym looked) ∙ held)
    (subst (λ (k : Connected). IsLike old.standing k.standing) (sym opened) (opened_is_like peer old.standing))
    (goes ∙ ap (λ v. way v c.standing false now) (seen_same t us nodes me each a b d e)))

pub table_counted : (t : SlotsValue) (us : List Place) (nodes me each at number now : ℕ) (p : Place)
    (found : Option Connected) (old c : Connected)
    (w : Way) (read wrote places : List Place) → IsTable t → p ≡ place_at read at → found ≡ held_by p number →
    found ≡ Some old → c ≡ counted_now now old → w ≡ way (seen t us nodes me each) c.standing true now →
    places ≡ settled wrote at c w →
    read ≡ t.places → wrote ≡ t.places → us ≡ t.places → nodes ≡ t.nodes → me ≡ t.me → each ≡ t.each →
    IsTable (record t { places = places })
table_counted t us nodes me each at number now p found old c w read wrote places is looked finds held counts goes
    settle same_read same_wrote a b d e =
    subst (λ ps. IsTable (record t { places = ps }))
    (sym (settle ∙ ap (λ ps. settled ps at c w) same_wrote))
    (table_settled t at old c true now w is
    (ap (λ ps. (place_at ps at).held) (sym same_read) ∙ ap (λ (q : Place). q.held) (sym looked)
    ∙ held_there_by p number old (sym finds ∙ held))
    (subst (λ (k : Connected). IsLike old.standing k.standing) (sym counts) (same_is_like old.standing))
    (goes ∙ ap (λ v. way v c.standing true now) (seen_same t us nodes me each a b d e)))

pub table_over : (t : SlotsValue) (now : ℕ) (places : List Place) → IsTable t →
    places ≡ map (after_time now) t.places → IsTable (record t { places = places })
table_over t now places is over = subst (λ ps. IsTable (record t { places = ps })) (sym over) (table_passed t now is)
