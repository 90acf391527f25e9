-- The laws of the sessions' ids.
use Rattle.std.proofs.Common.{◌≡◌, ℕ, zero, suc, ◌+◌, ◌≤◌, ◌<◌, Bool, true, false, ◌==◌}
use Rattle.std.proofs.Common.{if◌then◌else◌, ◌⊎◌, List, [], ◌∷◌, ◌++◌, length, Option, Some, None}
use Rattle.std.proofs.Common.{refl, sym, ap, ◌∙◌, inl, inr, append_assoc, append-nil, arith}
use Rattle.std.proofs.lemmas.Bool.{cases_lt}
use Rattle.std.proofs.lemmas.Bool.Decides.{nat_tests}
use Rattle.std.proofs.lemmas.List.FromFn.{length-range_with_len}
use Rattle.std.proofs.lemmas.List.Sums.{count_by-le-length}
use Rattle.std.specs.Cmp.{nat_cmp_total}
use Rattle.std.specs.FinMap as map
use Rattle.std.specs.FinMap.{len-empty, len-insert}
use Rattle.std.specs.List.{filter_map, range_with_len}
use Rattle.std.specs.Option.{option_map}
use Rattle.std.specs.Ordering.{nat_cmp}
use Rattle.role_commands.proofs.Exported.{filter_map-length}
use Rattle.role_sessions.specs.declared.event.ClientEvent.{ClientEvent}
use Rattle.role_sessions.specs.declared.event.ClientEvent.TheVariants.{Open, Activate, DropRole, Close}
use Rattle.role_sessions.specs.Sessions.{Session, opened_count, is_opening, session_in, entry_in, state_of}
use Rattle.role_sessions.specs.Laws.{StateCountsTheOpened, IdsAreGivenInOrder, ClosedStayClosed}
use Rattle.role_sessions.proofs.StateLemmas.{opened-state_of}
use Rattle.role_sessions.proofs.EventLemmas.{opened_count-push, session_in-opened}
use Rattle.role_sessions.proofs.EventLemmas.{session_in-closed, session_in-activated}
use Rattle.role_sessions.proofs.EventLemmas.{session_in-dropped, session_in-beyond, session_in-zero}

opened_within : (events : List ClientEvent) → opened_count events ≤ length events
unfolding opened_count
opened_within events = count_by-le-length is_opening events

pub state_counts_the_opened : StateCountsTheOpened
state_counts_the_opened events = (opened-state_of events, opened_within events)

-- a map has no more keys than it has entries given
few_keys : (es : List (ℕ × Session)) → map.len (map.from_entries {R = nat_cmp} es) ≤ length es
few_keys [] = let none = len-empty nat_cmp Session in omega (arith, none)
few_keys (e ∷ es) =
    by (map.contains_key (map.from_entries {R = nat_cmp} es) e.0)
    (len-insert nat_cmp_total (map.from_entries es) e.0 e.1)
    (few_keys es)
  where
    by : (b : Bool) {more few : ℕ} → more ≡ (if b then few else few + 1) → few ≤ length es → more ≤ suc (length es)
    by true is within = omega arith
    by false is within = omega arith

-- no more sessions are open than events happened
pub open_are_few : (events : List ClientEvent) → map.len (state_of events).open_sessions ≤ length events
unfolding state_of
open_are_few events =
    let ids : List ℕ = range_with_len 1 (opened_count events) in
    let keys = few_keys (filter_map (entry_in events) ids) in
    let some = filter_map-length (entry_in events) ids in
    let long = length-range_with_len 1 (opened_count events) in
    let opened = opened_within events in
    omega arith

pub ids_are_given_in_order : IdsAreGivenInOrder
ids_are_given_in_order events zero there = absurd (there (session_in-zero events))
ids_are_given_in_order events (suc id) there = by (cases_lt (opened_count events) (suc id))
  where
    by : (opened_count events < suc id) ⊎ (suc id ≤ opened_count events) → (1 ≤ suc id) × (suc id ≤ opened_count events)
    by (inl beyond) = absurd (there (session_in-beyond events (suc id) beyond))
    by (inr within) = (omega arith, within)

either_none : {A B : Type 0} (b : Bool) (f : A → B) {o : Option A} {p : Option B} → o ≡ None → p ≡ None →
    (if b then option_map f o else p) ≡ None
either_none true f e h = ap (option_map f) e
either_none false f e h = h

still_none : (b : Bool) (o : Option Session) → o ≡ None → (if b then None else o) ≡ None
still_none true o e = refl
still_none false o e = e

closed_step : (events : List ClientEvent) (event : ClientEvent) (id : ℕ) → id ≤ opened_count events
    → session_in events id ≡ None → session_in (events ++ event ∷ []) id ≡ None
closed_step events (Open user) id given closed =
    let other : (id == opened_count events + 1) ≡ false = grind (arith, nat_tests) in
    session_in-opened events user id ∙ (λ i. if other i then Some (record { user = user; active = [] }) else closed i)
closed_step events (Activate s user role) id given closed =
    session_in-activated events s user role id ∙ either_none (id == s) _ closed closed
closed_step events (DropRole s user role) id given closed =
    session_in-dropped events s user role id ∙ either_none (id == s) _ closed closed
closed_step events (Close s user) id given closed = session_in-closed events s user id ∙ still_none (id == s) _ closed

pub closed_stay_closed : ClosedStayClosed
closed_stay_closed events [] id given closed = ap (λ es. session_in es id) (append-nil events) ∙ closed
closed_stay_closed events (event ∷ later) id given closed =
    let more = opened_count-push events event in
    ap (λ es. session_in es id) (sym (append_assoc events (event ∷ []) later))
    ∙ closed_stay_closed (events ++ event ∷ []) later id (omega (arith, more))
    (closed_step events event id given closed)
