-- How one more event at the end changes the state.
use Rattle.std.proofs.Common.{◌≡◌, ◌≢◌, ℕ, zero, suc, ◌+◌, ◌<◌, ◌≤◌, Bool, true, false, not, ◌||◌}
use Rattle.std.proofs.Common.{◌==◌, if◌then◌else◌, ◌⊎◌, nat_le, length, List, [], ◌∷◌, ◌++◌}
use Rattle.std.proofs.Common.{filter, Option, Some, None, refl, sym, ap, ◌∙◌, inl, inr, arith}
use Rattle.std.proofs.lemmas.Bool.Decides.{eqb_tells, nat_tests}
use Rattle.std.specs.Cmp.{nat_cmp_total, unsigned_tied}
use Rattle.std.specs.FinMap as map
use Rattle.std.specs.FinMap.{find, get-from_entries, get-insert, get-remove, same_map, nat_cmp-IsAntisymmetric}
use Rattle.std.specs.List.{list_any, filter_map, cons_option, range_with_len}
use Rattle.std.specs.Option.{option_map, option_map_or}
use Rattle.std.specs.Ordering.{nat_cmp, eq_by_cmp}
use Rattle.role_sessions.specs.declared.event.ClientEvent.{ClientEvent}
use Rattle.role_sessions.specs.declared.event.ClientEvent.TheVariants.{Open, Activate, DropRole, Close}
use Rattle.role_sessions.specs.Sessions.{Session, SessionState, opened_count, session_in, state_of}
use Rattle.role_commands.specs.Tables.{Table}
use Rattle.role_sessions.specs.declared.faults.SessionFault.TheVariants as session
use Rattle.role_sessions.specs.Decisions.{Relations}
use Rattle.role_sessions.specs.Refusals.{most_active_roles, activate_in, activate_due}
use Rattle.role_sessions.specs.inside.Changes.{with_role, without_role, changed_at}
use Rattle.role_sessions.proofs.EventLemmas.{opened_count-push, session_in-opened}
use Rattle.role_sessions.proofs.EventLemmas.{session_in-closed, session_in-activated}
use Rattle.role_sessions.proofs.EventLemmas.{session_in-dropped, session_in-beyond, session_in-zero}

-- the entries of a function of the ids
abbrev entries_of : (ℕ → Option Session) → List ℕ → List (ℕ × Session)
entries_of f ids = filter_map (λ id. option_map (λ (session : Session). (id, session)) (f id)) ids

find-below : (f : ℕ → Option Session) (a n q : ℕ) → q < a → find nat_cmp q (entries_of f (range_with_len a n)) ≡ None
find-below f a zero q h = refl
find-below f a (suc n) q h = by (f a) (find-below f (a + 1) n q (omega arith))
  where
    apart : eq_by_cmp nat_cmp q a ≡ false
    apart = unsigned_tied q a ∙ grind (arith, nat_tests)

    by : (o : Option Session) → find nat_cmp q (entries_of f (range_with_len (a + 1) n)) ≡ None →
        find nat_cmp q (cons_option (option_map (λ (session : Session). (a, session)) o)
        (entries_of f (range_with_len (a + 1) n))) ≡ None
    by None e = e
    by (Some s) e = rw apart e

find-within : (f : ℕ → Option Session) (a n q : ℕ) → a ≤ q → ((x : ℕ) → a + n ≤ x → f x ≡ None)
    → find nat_cmp q (entries_of f (range_with_len a n)) ≡ f q
find-within f a zero q h none = sym (none q (omega arith))
find-within f a (suc n) q h none =
    by (f a) refl (eqb_tells q a) (λ above. find-within f (a + 1) n q above (λ x high. none x (omega arith)))
  where
    rest : List (ℕ × Session)
    rest = entries_of f (range_with_len (a + 1) n)

    by : (o : Option Session) → f a ≡ o → ((q == a) ≡ true) × (q ≡ a) ⊎ ((q == a) ≡ false) × (q ≢ a)
        → (a + 1 ≤ q → find nat_cmp q rest ≡ f q) →
        find nat_cmp q (cons_option (option_map (λ (session : Session). (a, session)) o) rest) ≡ f q
    by None e (inl same) further = find-below f (a + 1) n q (omega (arith, same.1)) ∙ sym e ∙ ap f (sym same.1)
    by None e (inr apart) further = further (omega (arith, apart.1))
    by (Some s) e (inl same) further = rw (unsigned_tied q a, same.0) (sym e ∙ ap f (sym same.1))
    by (Some s) e (inr apart) further = rw (unsigned_tied q a, apart.0) (further (omega (arith, apart.1)))

-- a session is open exactly where the events say so
pub get-state_of : (events : List ClientEvent) (id : ℕ)
    → map.get (state_of events).open_sessions id ≡ session_in events id
unfolding state_of
get-state_of events zero =
    get-from_entries nat_cmp_total _ 0 ∙ find-below (session_in events) 1 (opened_count events) 0 (omega arith)
    ∙ sym (session_in-zero events)
get-state_of events (suc id) =
    get-from_entries nat_cmp_total _ (suc id)
    ∙ find-within (session_in events) 1 (opened_count events) (suc id) (omega arith) (λ x above.
    session_in-beyond events x (omega arith))

pub opened-state_of : (events : List ClientEvent) → (state_of events).opened ≡ opened_count events
unfolding state_of
opened-state_of events = refl

-- states with the same count and the same open sessions
pub same_state : (a b : SessionState) → a.opened ≡ b.opened
    → ((id : ℕ) → map.get a.open_sessions id ≡ map.get b.open_sessions id) → a ≡ b
same_state a b opened sessions =
    let same = same_map nat_cmp_total nat_cmp-IsAntisymmetric a.open_sessions b.open_sessions sessions in
    λ i. record { opened = opened i; open_sessions = same i }

pub get-inserted : (m : map.FinMap nat_cmp Session) (id : ℕ) (session : Session) (q : ℕ)
    → map.get (map.insert m id session) q ≡ (if q == id then Some session else map.get m q)
get-inserted m id session q =
    get-insert nat_cmp_total m id session q ∙ ap (λ b. if b then Some session else map.get m q) (unsigned_tied q id)

pub get-removed : (m : map.FinMap nat_cmp Session) (id q : ℕ)
    → map.get (map.remove m id) q ≡ (if q == id then None else map.get m q)
get-removed m id q = get-remove nat_cmp_total m id q ∙ ap (λ b. if b then None else map.get m q) (unsigned_tied q id)

pub get-changed_at : (m : map.FinMap nat_cmp Session) (id : ℕ) (change : Session → Session) (q : ℕ) →
    map.get (changed_at m id change) q ≡ (if q == id then option_map change (map.get m q) else map.get m q)
get-changed_at m id change q = by (map.get m id) refl (eqb_tells q id)
  where
    by : (o : Option Session) → map.get m id ≡ o → ((q == id) ≡ true) × (q ≡ id) ⊎ ((q == id) ≡ false) × (q ≢ id) →
        map.get (option_map_or (λ session. map.insert m id (change session)) o m) q
        ≡ (if q == id then option_map change (map.get m q) else map.get m q)
    by None e (inl same) =
        rw same.0 (ap (map.get m) same.1 ∙ e ∙ ap (option_map change) (sym e ∙ ap (map.get m) (sym same.1)))
    by None e (inr apart) = rw apart.0 refl
    by (Some s) e (inl same) =
        get-inserted m id (change s) q ∙ rw same.0 (ap (option_map change) (sym e ∙ ap (map.get m) (sym same.1)))
    by (Some s) e (inr apart) = get-inserted m id (change s) q ∙ rw apart.0 refl

-- ---- the four events

pub state_of-opened : (events : List ClientEvent) (user : ℕ) →
    record {
      opened = (state_of events).opened + 1;
      open_sessions = map.insert (state_of events).open_sessions ((state_of events).opened + 1) (record {
        user = user;
        active = [];
      });
    }
    ≡ state_of (events ++ Open user ∷ [])
state_of-opened events user =
    same_state _ _
    (ap (λ n. n + 1) (opened-state_of events)
    ∙ sym (opened-state_of (events ++ Open user ∷ []) ∙ opened_count-push events (Open user)))
    (λ id. get-inserted (state_of events).open_sessions ((state_of events).opened + 1) (record {
      user = user;
      active = [];
    }) id
    ∙ (λ i. if id == opened-state_of events i + 1 then Some (record {
      user = user;
      active = [];
    }) else get-state_of events id i)
    ∙ sym (get-state_of (events ++ Open user ∷ []) id ∙ session_in-opened events user id))

add-none : (a b : ℕ) → b ≡ a + 0 → a ≡ b
add-none a b e = omega arith

pub state_of-closed : (events : List ClientEvent) (s user : ℕ) →
    record {
      opened = (state_of events).opened;
      open_sessions = map.remove (state_of events).open_sessions s;
    } ≡ state_of (events ++ Close s user ∷ [])
state_of-closed events s user =
    same_state _ _
    (opened-state_of events
    ∙ add-none _ _ (opened-state_of (events ++ Close s user ∷ []) ∙ opened_count-push events (Close s user)))
    (λ id. get-removed (state_of events).open_sessions s id
    ∙ (λ i. if id == s then None else get-state_of events id i)
    ∙ sym (get-state_of (events ++ Close s user ∷ []) id ∙ session_in-closed events s user id))

pub state_of-dropped : (events : List ClientEvent) (s user role : ℕ) →
    record {
      opened = (state_of events).opened;
      open_sessions = changed_at (state_of events).open_sessions s (without_role role);
    } ≡ state_of (events ++ DropRole s user role ∷ [])
state_of-dropped events s user role =
    same_state _ _
    (opened-state_of events ∙ add-none _ _ (opened-state_of (events ++ DropRole s user role ∷ [])
    ∙ opened_count-push events (DropRole s user role)))
    (λ id. get-changed_at (state_of events).open_sessions s (without_role role) id
    ∙ (λ i. if id == s then option_map (without_role role) (get-state_of events id i) else get-state_of events id i)
    ∙ sym (get-state_of (events ++ DropRole s user role ∷ []) id ∙ session_in-dropped events s user role id))

-- the role as the last active one, whether it was active before or not
abbrev last_active : ℕ → Session → Session
last_active role session = with_role role (without_role role session)

state_of-last_active : (events : List ClientEvent) (s user role : ℕ) →
    record {
      opened = (state_of events).opened;
      open_sessions = changed_at (state_of events).open_sessions s (last_active role);
    } ≡ state_of (events ++ Activate s user role ∷ [])
state_of-last_active events s user role =
    same_state _ _
    (opened-state_of events ∙ add-none _ _ (opened-state_of (events ++ Activate s user role ∷ [])
    ∙ opened_count-push events (Activate s user role)))
    (λ id. get-changed_at (state_of events).open_sessions s (last_active role) id
    ∙ (λ i. if id == s then option_map (last_active role) (get-state_of events id i) else get-state_of events id i)
    ∙ sym (get-state_of (events ++ Activate s user role ∷ []) id ∙ session_in-activated events s user role id))

-- a role that isn't among them is not missed
pub filter-absent : (role : ℕ) (roles : List ℕ) → list_any (λ active. active == role) roles ≡ false
    → filter (λ active. not (active == role)) roles ≡ roles
filter-absent role [] h = refl
filter-absent role (r ∷ roles) h = by (r == role) h (filter-absent role roles)
  where
    by : (b : Bool) → (b || list_any (λ active. active == role) roles) ≡ false
        → (list_any (λ active. active == role) roles ≡ false → filter (λ active. not (active == role)) roles ≡ roles)
        → (if not b then r ∷ filter (λ active. not (active == role)) roles
        else filter (λ active. not (active == role)) roles) ≡ r ∷ roles
    by true e further = absurd (cc)
    by false e further = ap (λ rest. r ∷ rest) (further e)

pub state_of-activated : (events : List ClientEvent) (s user role : ℕ) (session : Session) →
    map.get (state_of events).open_sessions s ≡ Some session
    → list_any (λ active. active == role) session.active ≡ false →
    record {
      opened = (state_of events).opened;
      open_sessions = changed_at (state_of events).open_sessions s (with_role role);
    } ≡ state_of (events ++ Activate s user role ∷ [])
state_of-activated events s user role session found new =
    (λ i. record {
      opened = (state_of events).opened;
      open_sessions =
          option_map_or (λ x. map.insert (state_of events).open_sessions s (with_role role x)) (found i)
          (state_of events).open_sessions;
    })
    ∙ (λ i. record {
      opened = (state_of events).opened;
      open_sessions =
          map.insert (state_of events).open_sessions s (record {
            user = session.user;
            active = sym (filter-absent role session.active new) i ++ role ∷ [];
          });
    })
    ∙ (λ i. record {
      opened = (state_of events).opened;
      open_sessions =
          option_map_or (λ x. map.insert (state_of events).open_sessions s (last_active role x)) (sym found i)
          (state_of events).open_sessions;
    })
    ∙ state_of-last_active events s user role

pub state_of-none : record { opened = 0; open_sessions = map.empty } ≡ state_of []
unfolding state_of opened_count
state_of-none = refl

-- ---- what the calls do

-- no fault is due: the session is open, and the role isn't active in it
no_fault : (yours there has active full : Bool) →
    (if not yours then Some session.NotYours
    else (if not there then Some session.NoSuchRole else (if not has then Some session.NotAssigned
    else (if active then Some session.AlreadyActive else (if full then Some session.TooManyRoles else None))))) ≡ None
    → active ≡ false
no_fault false there has active full e = absurd (cc)
no_fault true false has active full e = absurd (cc)
no_fault true true false active full e = absurd (cc)
no_fault true true true true full e = absurd (cc)
no_fault true true true false full e = refl

activatable : (table : Table) (relations : Relations) (o : Option Session) (user role : ℕ)
    → activate_in table relations o user role ≡ None →
    (session : Session) × ((o ≡ Some session) × (list_any (λ active. active == role) session.active ≡ false))
activatable table relations None user role e = absurd (cc)
activatable table relations (Some found) user role e = (
  found,
  (
    refl,
    no_fault (found.user == user) (map.contains_key table.owners role) (relations.assigned user role)
        (list_any (λ active. active == role) found.active) (nat_le most_active_roles (length found.active)) e,
  ),
)

module _ (n : ℕ) (open_sessions new : map.FinMap nat_cmp Session) (old : SessionState) (view : record {
  opened = n;
  open_sessions = open_sessions;
} ≡ old) where
  module _ (events : List ClientEvent) (are : old ≡ state_of events) where
    at : record { opened = n; open_sessions = open_sessions } ≡ state_of events
    at = view ∙ are

    pub then_opened : (user : ℕ) (session : Session) → session ≡ record { user = user; active = [] }
        → new ≡ map.insert open_sessions (n + 1) session →
        record { opened = n + 1; open_sessions = new } ≡ state_of (events ++ Open user ∷ [])
    then_opened user session is made =
        (λ i. record { opened = n + 1; open_sessions = made i })
        ∙ (λ i. record {
          opened = (at i).opened + 1;
          open_sessions = map.insert (at i).open_sessions ((at i).opened + 1) (is i);
        })
        ∙ state_of-opened events user

    pub then_closed : (s user : ℕ) → new ≡ map.remove open_sessions s
        → record { opened = n; open_sessions = new } ≡ state_of (events ++ Close s user ∷ [])
    then_closed s user made =
        (λ i. record { opened = n; open_sessions = made i })
        ∙ (λ i. record { opened = (at i).opened; open_sessions = map.remove (at i).open_sessions s })
        ∙ state_of-closed events s user

    pub then_dropped : (s user role : ℕ) → new ≡ changed_at open_sessions s (without_role role) →
        record { opened = n; open_sessions = new } ≡ state_of (events ++ DropRole s user role ∷ [])
    then_dropped s user role made =
        (λ i. record { opened = n; open_sessions = made i })
        ∙ (λ i. record {
          opened = (at i).opened;
          open_sessions = changed_at (at i).open_sessions s (without_role role);
        })
        ∙ state_of-dropped events s user role

    pub then_activated : (table : Table) (relations : Relations) (s user role : ℕ)
        → activate_due table relations old s user role ≡ None →
        new ≡ changed_at open_sessions s (with_role role) → record {
          opened = n;
          open_sessions = new;
        } ≡ state_of (events ++ Activate s user role ∷ [])
    then_activated table relations s user role due made =
        let free = activatable table relations (map.get old.open_sessions s) user role due in
        (λ i. record { opened = n; open_sessions = made i })
        ∙ (λ i. record { opened = (at i).opened; open_sessions = changed_at (at i).open_sessions s (with_role role) })
        ∙ state_of-activated events s user role free.0 (ap (λ st. map.get st.open_sessions s) (sym are)
        ∙ free.1.0) free.1.1
