-- What is kept at a place: a record below the reach, in the window an instance in the slot of the place, and beyond
-- it nothing.
use Rattle.std.proofs.Common.{◌≡◌, ◌≢◌, ℕ, zero, suc, ◌+◌, ◌%◌, ◌<◌, ◌≤◌, ⊎_elim, true, false, List, [], ◌∷◌}
use Rattle.std.proofs.Common.{◌++◌, length, length-append, map, Option, Some, None, refl, sym, ap, ◌∙◌, arith}
use Rattle.std.specs.Prelude.{nat_lt, slice_get, slice_set, IsSome, is_some}
use Rattle.std.specs.List.{range_with_len}
use Rattle.std.specs.FinMap as maps
use Rattle.std.specs.Cmp.{nat_cmp_total}
use Rattle.std.proofs.lemmas.List.{get_or_past, get_or-set_other}
use Rattle.std.proofs.lemmas.List.FromFn.{length-map-range_with_len, get_or-map-range_with_len}
use Rattle.std.proofs.lemmas.Bool.{cases_lt, cases_eq, both_ways}
use Rattle.std.proofs.lemmas.Bool.Decides.{nat_tests}
use Rattle.role_commands.proofs.Exported.{slice_get-front, slice_get-seam}
use Rattle.bracha_instance.specs.States.{State}
use Rattle.owner_streams.specs.Places.{window}
use Rattle.owner_streams.specs.inside.Slots.{slot_at, delivered_in}
use Rattle.owner_streams.specs.inside.Kept.{reach_in, held_in, held, instances_in}
use Rattle.owner_streams.specs.declared.owner_stream.OwnerStream.{OwnerStream}
use Rattle.owner_streams.proofs.Slots.{get-instances_from}

-- The three cases.

pub held-below : (below : List State) (ring : List (Option State)) (place : ℕ) → place < length below
    → held_in below ring place ≡ slice_get below place
held-below below ring place h =
    let test : nat_lt place (length below) ≡ true = grind (arith, nat_tests) in rw test refl

pub held-window : (below : List State) (ring : List (Option State)) (place : ℕ) → length below ≤ place
    → place < length below + window → held_in below ring place ≡ slot_at ring (place % window)
held-window below ring place past within =
    let no_record : nat_lt place (length below) ≡ false = grind (arith, nat_tests) in
    let open_place : nat_lt place (length below + window) ≡ true = grind (arith, nat_tests) in
    rw (no_record, open_place) refl

pub held-beyond : (below : List State) (ring : List (Option State)) (place : ℕ) → length below + window ≤ place
    → held_in below ring place ≡ None
held-beyond below ring place past =
    let no_record : nat_lt place (length below) ≡ false = grind (arith, nat_tests) in
    let closed : nat_lt place (length below + window) ≡ false = grind (arith, nat_tests) in
    rw (no_record, closed) refl

-- places that are apart by less than the window have slots of their own
slots_apart : (a b : ℕ) → a < b → b < a + window → b % window ≢ a % window
slots_apart a b before within same = absurd (omega arith)

-- the place a window later has the same slot
same_slot : (a b : ℕ) → b ≡ a + window → b % window ≡ a % window
same_slot a b e = omega arith

-- Lists.

cleared : (ring : List (Option State)) (k : ℕ) → slot_at (slice_set ring k None) k ≡ None
cleared [] k = refl
cleared (slot ∷ ring) zero = refl
cleared (slot ∷ ring) (suc k) = cleared ring k

-- A change at one place.

-- where one record changes, no other place does
pub held-other_record : (below now : List State) (ring : List (Option State)) (here : ℕ) → here < length below
    → length now ≡ length below → ((k : ℕ) → k ≢ here → slice_get now k ≡ slice_get below k)
    → (place : ℕ) → place ≢ here → held_in now ring place ≡ held_in below ring place
held-other_record below now ring here h len others place apart =
    ⊎_elim
    (λ (in_records : place < length below).
    held-below now ring place (omega arith) ∙ others place apart ∙ sym (held-below below ring place in_records))
    (λ (past : length below ≤ place).
    ⊎_elim
    (λ (in_window : place < length below + window).
    held-window now ring place (omega arith) (omega arith) ∙ sym (held-window below ring place past in_window))
    (λ (beyond : length below + window ≤ place).
    held-beyond now ring place (omega arith) ∙ sym (held-beyond below ring place beyond))
    (cases_lt place (length below + window)))
    (cases_lt place (length below))

-- where one slot changes, no place changes but the one in the window that has it
pub held-other_slot : (below : List State) (ring now : List (Option State)) (here : ℕ)
    → length below ≤ here → here < length below + window
    → ((k : ℕ) → k ≢ here % window → slot_at now k ≡ slot_at ring k)
    → (place : ℕ) → place ≢ here → held_in below now place ≡ held_in below ring place
held-other_slot below ring now here past within others place apart =
    ⊎_elim
    (λ (in_records : place < length below).
    held-below below now place in_records ∙ sym (held-below below ring place in_records))
    (λ (open_from : length below ≤ place).
    ⊎_elim
    (λ (in_window : place < length below + window).
    let own : place % window ≢ here % window =
    ⊎_elim (λ (before : place < here). λ e. slots_apart place here before (omega arith) (sym e))
    (λ (after : here ≤ place). slots_apart here place (later here place after apart) (omega arith))
    (cases_lt place here) in
    held-window below now place open_from in_window
    ∙ others (place % window) own
    ∙ sym (held-window below ring place open_from in_window))
    (λ (beyond : length below + window ≤ place).
    held-beyond below now place beyond ∙ sym (held-beyond below ring place beyond))
    (cases_lt place (length below + window)))
    (cases_lt place (length below))
  where
    later : (a b : ℕ) → a ≤ b → b ≢ a → a < b
    later a b h apart = omega arith

-- The window moves on.

-- a record of the instance at its front, whose slot is free then, leaves at each place what was there
pub held-moved : (below : List State) (ring : List (Option State)) (st : State)
    → held_in below ring (length below) ≡ Some st
    → (place : ℕ) → held_in (below ++ st ∷ []) (slice_set ring (length below % window) None) place
    ≡ held_in below ring place
held-moved below ring st front place =
    let more = below ++ st ∷ [] in
    let free = slice_set ring (length below % window) None in
    let len : length more ≡ length below + 1 = length-append below (st ∷ []) ∙ refl in
    ⊎_elim
    (λ (before : place < length below).
    held-below more free place (omega arith) ∙ slice_get-front below (st ∷ []) place before
    ∙ sym (held-below below ring place before))
    (λ (from : length below ≤ place).
    ⊎_elim
    (λ (at : place ≡ length below).
    ap (held_in more free) at
    ∙ held-below more free (length below) (omega arith)
    ∙ slice_get-seam below [] st
    ∙ sym (ap (held_in below ring) at ∙ front))
    (λ (apart : place ≢ length below).
    let after : length below < place = later (length below) place from apart in
    ⊎_elim
    (λ (in_window : place < length below + window).
    held-window more free place (omega arith) (omega arith)
    ∙ get_or-set_other ring (length below % window) (place % window) None None
    (slots_apart (length below) place after in_window)
    ∙ sym (held-window below ring place from in_window))
    (λ (past : length below + window ≤ place).
    ⊎_elim
    (λ (new : place ≡ length below + window).
    held-window more free place (omega arith) (omega arith)
    ∙ ap (slot_at free) (same_slot (length below) place new)
    ∙ cleared ring (length below % window)
    ∙ sym (held-beyond below ring place past))
    (λ (further : place ≢ length below + window).
    held-beyond more free place (further_on (length below) place past further len)
    ∙ sym (held-beyond below ring place past))
    (cases_eq place (length below + window)))
    (cases_lt place (length below + window)))
    (cases_eq place (length below)))
    (cases_lt place (length below))
  where
    later : (a b : ℕ) → a ≤ b → b ≢ a → a < b
    later a b h apart = omega arith

    further_on : (a b : ℕ) → a + window ≤ b → b ≢ a + window → {n : ℕ} → n ≡ a + 1 → n + window ≤ b
    further_on a b h apart e = omega arith

-- a slot in which an instance is is one of the ring
pub slot_within : (ring : List (Option State)) (k : ℕ) (st : State) → slot_at ring k ≡ Some st → k < length ring
slot_within ring k st is =
    ⊎_elim (λ (within : k < length ring). within)
    (λ (past : length ring ≤ k). let none : Some st ≡ None = sym is ∙ get_or_past ring k None past in absurd cc)
    (cases_lt k (length ring))

-- what is delivered where the stream began to grow is within its window then
pub front_within : (a b : OwnerStream) → ((place : ℕ) → held b place ≡ held a place) → reach_in b ≤ reach_in a + window
    → IsSome (delivered_in (held b (reach_in b))) → reach_in b < reach_in a + window
unfolding held
front_within a b same few some =
    ⊎_elim (λ (within : reach_in b < reach_in a + window). within)
    (λ (past : reach_in a + window ≤ reach_in b).
    let none : held_in b.below.items b.ring.items (reach_in b) ≡ None =
    same (reach_in b) ∙ held-beyond a.below.items a.ring.items (reach_in b) past in
    absurd (both_ways (is_some (delivered_in (held_in b.below.items b.ring.items (reach_in b))))
    (ap (λ slot. is_some (delivered_in slot)) none) some))
    (cases_lt (reach_in b) (reach_in a + window))

-- one place more is delivered
pub run_more : (a b : OwnerStream) → ((place : ℕ) → held b place ≡ held a place) → reach_in b ≡ reach_in a + 1
    → ((place : ℕ) → place < reach_in a → IsSome (delivered_in (held a place)))
    → IsSome (delivered_in (held a (reach_in a)))
    → (place : ℕ) → place < reach_in b → IsSome (delivered_in (held b place))
run_more a b same len run front place h =
    ap (λ slot. is_some (delivered_in slot)) (same place)
    ∙ ⊎_elim (λ (before : place < reach_in a). run place before)
    (λ (past : reach_in a ≤ place).
    let at : place ≡ reach_in a = omega arith in ap (λ k. is_some (delivered_in (held a k))) at ∙ front)
    (cases_lt place (reach_in a))

-- All places as one map.

pub get-instances_in : (a : OwnerStream) (place : ℕ) → maps.get (instances_in a) place ≡ held a place
unfolding instances_in held
get-instances_in a place =
    let n = reach_in a + window in
    let places = map (held a) (range_with_len 0 n) in
    let len : length places ≡ n = length-map-range_with_len (held a) 0 n in
    get-instances_from places place
    ∙ ⊎_elim
    (λ (within : place < n). get_or-map-range_with_len (held a) 0 n place place None within (omega arith))
    (λ (past : n ≤ place).
    get_or_past places place None (omega arith) ∙ sym (held-beyond a.below.items a.ring.items place past))
    (cases_lt place n)

pub same_instances_in : (a b : OwnerStream) → ((place : ℕ) → held b place ≡ held a place) → instances_in b
    ≡ instances_in a
same_instances_in a b same =
    maps.same_map nat_cmp_total maps.nat_cmp-IsAntisymmetric _ _ (λ place.
    get-instances_in b place ∙ same place ∙ sym (get-instances_in a place))
