-- How one more event at the end changes what the list of events says of a session.
use Rattle.std.proofs.Common.{◌≡◌, ◌≢◌, ℕ, ◌+◌, ◌-◌, ◌<◌, Bool, true, false, cond, not, ◌&&◌, ◌||◌}
use Rattle.std.proofs.Common.{◌==◌, if◌then◌else◌, ◌⊎◌, List, [], ◌∷◌, ◌++◌, filter, Option, Some, None}
use Rattle.std.proofs.Common.{refl, sym, ap, ◌∙◌, inl, inr, zero-add, add_comm, arith, append-nil}
use Rattle.std.proofs.lemmas.List.Sums.{sum_by-append, sum_by-cons}
use Rattle.std.proofs.lemmas.Bool.{cases_Bool}
use Rattle.std.proofs.lemmas.Bool.Decides.{eqb_tells, nat_tests}
use Rattle.std.proofs.lemmas.List.Folds.{list_any-append}
use Rattle.std.specs.List.{list_any, sum_by}
use Rattle.std.specs.Option.{option_map, option_and_then}
use Rattle.role_sessions.specs.declared.event.ClientEvent.{ClientEvent}
use Rattle.role_sessions.specs.declared.event.ClientEvent.TheVariants.{Open, Activate, DropRole, Close}
use Rattle.role_sessions.specs.Sessions.{Session, Life, is_opening, is_closing, is_about}
use Rattle.role_sessions.specs.Sessions.{opened_count, life_of, active_roles, while_open, session_in}
use Rattle.role_sessions.specs.inside.Changes.{with_role, without_role}

-- the life with one more event
abbrev pub later_by : ClientEvent → Life → Life
later_by event life = record { user = life.user; later = life.later ++ event ∷ [] }

-- the life of a session that just opened
abbrev new_life : ℕ → Life
new_life user = record { user = user; later = [] }

-- one for an opening
abbrev one : ClientEvent → ℕ
one event = cond (is_opening event) 1 0

pub opened_count-push : (events : List ClientEvent) (event : ClientEvent)
    → opened_count (events ++ event ∷ []) ≡ opened_count events + cond (is_opening event) 1 0
unfolding opened_count
opened_count-push events event = sum_by-append one events (event ∷ [])
    ∙ ap (λ n. sum_by one events + n) (zero-add (one event))

opened_count-none : opened_count [] ≡ 0
unfolding opened_count
opened_count-none = refl

opened_count-open : (user : ℕ) (events : List ClientEvent) → opened_count (Open user ∷ events) ≡ opened_count events + 1
unfolding opened_count
opened_count-open user events = sum_by-cons one (Open user) events ∙ add_comm 1 (sum_by one events)

opened_count-other : (event : ClientEvent) (events : List ClientEvent) → is_opening event ≡ false
    → opened_count (event ∷ events) ≡ opened_count events
unfolding opened_count
opened_count-other event events h =
    sum_by-cons one event events ∙ ap (λ b. cond b 1 0 + sum_by one events) h ∙ zero-add (sum_by one events)

-- ---- lives

pub life_of-later : (j : ℕ) (events : List ClientEvent) (event : ClientEvent) → is_opening event ≡ false
    → life_of j (events ++ event ∷ []) ≡ option_map (later_by event) (life_of j events)
unfolding life_of
life_of-later j [] (Open user) h = absurd (cc)
life_of-later j [] (Activate s user role) h = refl
life_of-later j [] (DropRole s user role) h = refl
life_of-later j [] (Close s user) h = refl
life_of-later j (Open v ∷ events) event h = by (j == 1) _ _ (life_of-later (j - 1) events event h)
  where
    by : (b : Bool) (l m : Option Life) → l ≡ option_map (later_by event) m →
        (if b then Some (record { user = v; later = events ++ event ∷ [] }) else l)
        ≡ option_map (later_by event) (if b then Some (record { user = v; later = events }) else m)
    by true l m e = refl
    by false l m e = e
life_of-later j (Activate s user role ∷ events) event h = life_of-later j events event h
life_of-later j (DropRole s user role ∷ events) event h = life_of-later j events event h
life_of-later j (Close s user ∷ events) event h = life_of-later j events event h

-- no session has the id 0
pub life_of-zero : (events : List ClientEvent) → life_of 0 events ≡ None
unfolding life_of
life_of-zero [] = refl
life_of-zero (Open v ∷ events) = life_of-zero events
life_of-zero (Activate s user role ∷ events) = life_of-zero events
life_of-zero (DropRole s user role ∷ events) = life_of-zero events
life_of-zero (Close s user ∷ events) = life_of-zero events

-- no session has an id above the count of the opened ones
pub life_of-beyond : (j : ℕ) (events : List ClientEvent) → opened_count events < j → life_of j events ≡ None
unfolding life_of
life_of-beyond j [] h = refl
life_of-beyond j (Open v ∷ events) h =
    let more = opened_count-open v events in
    let above : 1 < j = omega (arith, more) in
    let apart : (j == 1) ≡ false = grind (arith, nat_tests) in
    rw apart (life_of-beyond (j - 1) events (omega (arith, more)))
life_of-beyond j (Activate s user role ∷ events) h = let same = opened_count-other (Activate s user role) events refl in
    life_of-beyond j events (omega (arith, same))
life_of-beyond j (DropRole s user role ∷ events) h = let same = opened_count-other (DropRole s user role) events refl in
    life_of-beyond j events (omega (arith, same))
life_of-beyond j (Close s user ∷ events) h = let same = opened_count-other (Close s user) events refl in
    life_of-beyond j events (omega (arith, same))

pub life_of-opened : (j : ℕ) (events : List ClientEvent) (user : ℕ) →
    life_of j (events ++ Open user ∷ []) ≡ (if j == opened_count events + 1 then Some (new_life user)
    else option_map (later_by (Open user)) (life_of j events))
unfolding life_of
life_of-opened j [] user = rw opened_count-none refl
life_of-opened j (Open v ∷ events) user =
    rw (opened_count-open v events) (by (opened_count events) (eqb_tells j 1) (life_of-opened (j - 1) events user))
  where
    by : (n : ℕ) → ((j == 1) ≡ true) × (j ≡ 1) ⊎ ((j == 1) ≡ false) × (j ≢ 1) →
        life_of (j - 1) (events ++ Open user ∷ []) ≡ (if j - 1 == n + 1 then Some (new_life user)
        else option_map (later_by (Open user)) (life_of (j - 1) events)) →
        (if j == 1 then Some (record { user = v; later = events ++ Open user ∷ [] })
        else life_of (j - 1) (events ++ Open user ∷ []))
        ≡ (if j == n + 1 + 1 then Some (new_life user)
        else option_map (later_by (Open user))
        (if j == 1 then Some (record { user = v; later = events }) else life_of (j - 1) events))
    by n (inl first) e =
        let apart : (j == n + 1 + 1) ≡ false = grind (arith, nat_tests) in
        rw (first.0, apart) refl
    by n (inr more) e =
        let same : (j - 1 == n + 1) ≡ (j == n + 1 + 1) = grind (arith, nat_tests) in
        rw more.0 (rw same at e)
life_of-opened j (Activate s u role ∷ events) user =
    rw (opened_count-other (Activate s u role) events refl) (life_of-opened j events user)
life_of-opened j (DropRole s u role ∷ events) user =
    rw (opened_count-other (DropRole s u role) events refl) (life_of-opened j events user)
life_of-opened j (Close s u ∷ events) user =
    rw (opened_count-other (Close s u) events refl) (life_of-opened j events user)

-- ---- active roles

or_false : (b : Bool) → (b || (false || false)) ≡ b
or_false true = refl
or_false false = refl

-- an event about no role of the session leaves them
pub active_roles-idle : (id : ℕ) (events : List ClientEvent) (event : ClientEvent)
    → ((role : ℕ) → is_about id role event ≡ false) → active_roles id (event ∷ []) ≡ [] →
    active_roles id (events ++ event ∷ []) ≡ active_roles id events
unfolding active_roles
active_roles-idle id [] event h none = none
active_roles-idle id (Open u ∷ events) event h none = active_roles-idle id events event h none
active_roles-idle id (Activate s u r ∷ events) event h none =
    let same : list_any (is_about id r) (events ++ event ∷ []) ≡ list_any (is_about id r) events =
    list_any-append (is_about id r) events (event ∷ [])
    ∙ ap (λ b. list_any (is_about id r) events || (b || false)) (h r) ∙ or_false _ in
    let rest = active_roles-idle id events event h none in
    λ i. if (id == s) && not (same i) then r ∷ rest i else rest i
active_roles-idle id (DropRole s u r ∷ events) event h none = active_roles-idle id events event h none
active_roles-idle id (Close s u ∷ events) event h none = active_roles-idle id events event h none

-- the roles but one
abbrev but : ℕ → List ℕ → List ℕ
but role roles = filter (λ active. not (active == role)) roles

-- an event about a role takes it out, and then says itself whether it is active
pub active_roles-about : (id role : ℕ) (events : List ClientEvent) (event : ClientEvent)
    → ((r : ℕ) → is_about id r event ≡ (r == role)) →
    active_roles id (events ++ event ∷ []) ≡ but role (active_roles id events) ++ active_roles id (event ∷ [])
unfolding active_roles
active_roles-about id role [] event h = refl
active_roles-about id role (Open u ∷ events) event h = active_roles-about id role events event h
active_roles-about id role (Activate s u r ∷ events) event h =
    let rest = active_roles-about id role events event h in
    (λ i. if (id == s) && not (seen i) then r ∷ rest i else rest i)
    ∙ by (id == s) (list_any (is_about id r) events) (r == role) refl
  where
    seen : list_any (is_about id r) (events ++ event ∷ []) ≡ (list_any (is_about id r) events || ((r == role) || false))
    seen = list_any-append (is_about id r) events (event ∷ [])
        ∙ ap (λ b. list_any (is_about id r) events || (b || false)) (h r)

    by : (a b c : Bool) → (r == role) ≡ c →
        (if a && not (b || (c || false)) then r ∷ (but role (active_roles id events) ++ active_roles id (event ∷ []))
        else but role (active_roles id events) ++ active_roles id (event ∷ []))
        ≡ but role (if a && not b then r ∷ active_roles id events else active_roles id events)
        ++ active_roles id (event ∷ [])
    by false b c e = refl
    by true true c e = refl
    by true false true e = rw e refl
    by true false false e = rw e refl
active_roles-about id role (DropRole s u r ∷ events) event h = active_roles-about id role events event h
active_roles-about id role (Close s u ∷ events) event h = active_roles-about id role events event h

-- ---- sessions

and_then-map : (f : Life → Option Session) (g : Life → Life) (k : Session → Option Session)
    → ((l : Life) → f (g l) ≡ option_and_then k (f l)) →
    (o : Option Life) → option_and_then f (option_map g o) ≡ option_and_then k (option_and_then f o)
and_then-map f g k h None = refl
and_then-map f g k h (Some l) = h l

and_then-same : (o : Option Session) → option_and_then Some o ≡ o
and_then-same None = refl
and_then-same (Some s) = refl

-- an event that opens no session changes the open ones one by one
session_in-later : (events : List ClientEvent) (event : ClientEvent) (id : ℕ) (k : Session → Option Session)
    → is_opening event ≡ false →
    ((l : Life) → while_open id (later_by event l) ≡ option_and_then k (while_open id l)) →
    session_in (events ++ event ∷ []) id ≡ option_and_then k (session_in events id)
unfolding session_in
session_in-later events event id k h each =
    ap (option_and_then (while_open id)) (life_of-later id events event h)
    ∙ and_then-map (while_open id) (later_by event) k each (life_of id events)

-- one more event that doesn't close the session
open-still : (id : ℕ) (event : ClientEvent) (life : Life) (k : Session → Session) → is_closing id event ≡ false →
    k (record { user = life.user; active = active_roles id life.later }) ≡ record {
      user = life.user;
      active = active_roles id (life.later ++ event ∷ []);
    } →
    while_open id (later_by event life) ≡ option_and_then (λ session. Some (k session)) (while_open id life)
open-still id event life k h is =
    let same : list_any (is_closing id) (life.later ++ event ∷ []) ≡ list_any (is_closing id) life.later =
    list_any-append (is_closing id) life.later (event ∷ [])
    ∙ ap (λ b. list_any (is_closing id) life.later || (b || false)) h ∙ or_false _ in
    (λ i. if same i then None else Some (sym is i)) ∙ by (list_any (is_closing id) life.later)
  where
    by : (b : Bool) → (if b then None else Some (k (record { user = life.user; active = active_roles id life.later })))
        ≡ option_and_then (λ session. Some (k session)) (if b then None else Some (record {
          user = life.user;
          active = active_roles id life.later;
        }))
    by true = refl
    by false = refl

-- an event about no role of the session, which doesn't close it either, leaves it
idle-still : (id : ℕ) (event : ClientEvent) (life : Life) → is_closing id event ≡ false
    → ((role : ℕ) → is_about id role event ≡ false) → active_roles id (event ∷ []) ≡ [] →
    while_open id (later_by event life) ≡ while_open id life
idle-still id event life h about none =
    open-still id event life (λ session. session) h (λ i. record {
      user = life.user;
      active = sym (active_roles-idle id life.later event about none) i;
    }) ∙ and_then-same _

pub session_in-opened : (events : List ClientEvent) (user id : ℕ) →
    session_in (events ++ Open user ∷ []) id ≡ (if id == opened_count events + 1 then Some (record {
      user = user;
      active = [];
    }) else session_in events id)
unfolding session_in active_roles
session_in-opened events user id =
    ap (option_and_then (while_open id)) (life_of-opened id events user) ∙ by (id == opened_count events + 1)
  where
    by : (b : Bool)
        → option_and_then (while_open id) (if b then Some (new_life user)
        else option_map (later_by (Open user)) (life_of id events))
        ≡ (if b then Some (record {
          user = user;
          active = [];
        }) else option_and_then (while_open id) (life_of id events))
    by true = refl
    by false =
        and_then-map (while_open id) (later_by (Open user)) Some (λ l.
        idle-still id (Open user) l refl (λ role. refl) refl ∙ sym (and_then-same _)) (life_of id events)
        ∙ and_then-same _

closed-then : (id : ℕ) (event : ClientEvent) (life : Life) → is_closing id event ≡ true
    → while_open id (later_by event life) ≡ None
closed-then id event life h =
    rw (list_any-append (is_closing id) life.later (event ∷ []), h) (by (list_any (is_closing id) life.later))
  where
    by : (b : Bool)
        → cond {A = Option Session} (b || (true || false)) None (Some (record {
          user = life.user;
          active = active_roles id (life.later ++ event ∷ []);
        })) ≡ None
    by true = refl
    by false = refl

and_then-none : (o : Option Session) → option_and_then {T = Session} {U = Session} (λ session. None) o ≡ None
and_then-none None = refl
and_then-none (Some s) = refl

pub session_in-closed : (events : List ClientEvent) (s user id : ℕ) →
    session_in (events ++ Close s user ∷ []) id ≡ (if id == s then None else session_in events id)
unfolding active_roles
session_in-closed events s user id = by (cases_Bool (id == s))
  where
    by : ((id == s) ≡ true) ⊎ ((id == s) ≡ false)
        → session_in (events ++ Close s user ∷ []) id ≡ (if id == s then None else session_in events id)
    by (inl e) =
        rw e (session_in-later events (Close s user) id (λ session. None) refl (λ l. closed-then id (Close s user) l e
        ∙ sym (and_then-none _)) ∙ and_then-none _)
    by (inr e) =
        rw e (session_in-later events (Close s user) id Some refl (λ l.
        idle-still id (Close s user) l e (λ role. refl) refl ∙ sym (and_then-same _)) ∙ and_then-same _)

-- an event of one session about one role
module _ (s role : ℕ) (event : ClientEvent) (change : Session → Session)
    (no_opening : is_opening event ≡ false) (no_closing : (id : ℕ) → is_closing id event ≡ false)
    (about : (id r : ℕ) → is_about id r event ≡ ((id == s) && (r == role)))
    (quiet : (id : ℕ) → (id == s) ≡ false → active_roles id (event ∷ []) ≡ [])
    (changes : (id : ℕ) → (id == s) ≡ true → (user : ℕ) (later : List ClientEvent) →
    change (record { user = user; active = active_roles id later }) ≡ record {
      user = user;
      active = but role (active_roles id later) ++ active_roles id (event ∷ []);
    }) where
  session_in-changed : (events : List ClientEvent) (id : ℕ) →
      session_in (events ++ event ∷ []) id
      ≡ (if id == s then option_map change (session_in events id) else session_in events id)
  session_in-changed events id = by (cases_Bool (id == s))
    where
      as_map : (o : Option Session) → option_and_then (λ session. Some (change session)) o ≡ option_map change o
      as_map None = refl
      as_map (Some x) = refl

      by : ((id == s) ≡ true) ⊎ ((id == s) ≡ false)
          → session_in (events ++ event ∷ []) id
          ≡ (if id == s then option_map change (session_in events id) else session_in events id)
      by (inl e) =
          rw e (session_in-later events event id (λ session. Some (change session)) no_opening
          (λ l. open-still id event l change (no_closing id)
          (changes id e l.user l.later
          ∙ (λ i. record {
            user = l.user;
            active = sym (active_roles-about id role l.later event (λ r. about id r ∙ ap (λ b. b && (r == role)) e)) i;
          })))
          ∙ as_map (session_in events id))
      by (inr e) =
          rw e (session_in-later events event id Some no_opening
          (λ l. idle-still id event l (no_closing id) (λ r. about id r ∙ ap (λ b. b && (r == role)) e) (quiet id e)
          ∙ sym (and_then-same _))
          ∙ and_then-same _)

pub session_in-activated : (events : List ClientEvent) (s user role id : ℕ) →
    session_in (events ++ Activate s user role ∷ []) id
    ≡ (if id == s then option_map (λ session. with_role role (without_role role session)) (session_in events id)
    else session_in events id)
unfolding active_roles
session_in-activated events s user role =
    session_in-changed s role (Activate s user role) (λ session. with_role role (without_role role session)) refl (λ id.
    refl) (λ id r. refl)
    (λ id e. ap (λ b. if b && true then role ∷ [] else []) e)
    (λ id e u later. λ i. record {
      user = u;
      active = but role (active_roles id later) ++ (if sym e i && true then role ∷ [] else []);
    }) events

pub session_in-dropped : (events : List ClientEvent) (s user role id : ℕ) →
    session_in (events ++ DropRole s user role ∷ []) id
    ≡ (if id == s then option_map (without_role role) (session_in events id) else session_in events id)
unfolding active_roles
session_in-dropped events s user role =
    session_in-changed s role (DropRole s user role) (without_role role) refl (λ id. refl) (λ id r. refl) (λ id e. refl)
    (λ id e u later. λ i. record { user = u; active = sym (append-nil (but role (active_roles id later))) i }) events

-- no session has an id that was not given
pub session_in-beyond : (events : List ClientEvent) (id : ℕ) → opened_count events < id → session_in events id ≡ None
unfolding session_in
session_in-beyond events id h = ap (option_and_then (while_open id)) (life_of-beyond id events h)

pub session_in-zero : (events : List ClientEvent) → session_in events 0 ≡ None
unfolding session_in
session_in-zero events = ap (option_and_then (while_open 0)) (life_of-zero events)
