-- The sessions of Core RBAC (ANSI INCITS 359-2004), read off the list of what the clients did, oldest first.
use Rattle.std.specs.Prelude.{◌≡◌, ℕ, ◌-◌, Bool, true, false, ◌==◌, ◌&&◌, not, if◌then◌else◌}
use Rattle.std.specs.Prelude.{List, [], ◌∷◌, ◌++◌, count_by, Option, Some, None, option_and_then}
use Rattle.std.specs.FinMap as map
use Rattle.std.specs.List.{filter_map, list_any, range_with_len}
use Rattle.std.specs.Option.{option_map}
use Rattle.std.specs.Ordering.{nat_cmp}
use Rattle.role_sessions.specs.declared.event.ClientEvent.{ClientEvent}
use Rattle.role_sessions.specs.declared.event.ClientEvent.TheVariants.{Open, Activate, DropRole, Close}

-- a session: its one user, and the roles that are active in it, in the order of their activation
pub record Session : Type 0 where
  pub user : ℕ
  pub active : List ℕ

-- what there is of a session from its Open on: its user, and the events after the Open
pub record Life : Type 0 where
  pub user : ℕ
  pub later : List ClientEvent

-- the event opens a session
abbrev pub is_opening : ClientEvent → Bool
is_opening (Open user) = true
is_opening (Activate session user role) = false
is_opening (DropRole session user role) = false
is_opening (Close session user) = false

-- the event closes this session
abbrev pub is_closing : ℕ → ClientEvent → Bool
is_closing id (Open user) = false
is_closing id (Activate session user role) = false
is_closing id (DropRole session user role) = false
is_closing id (Close session user) = id == session

-- the event activates or drops this role in this session
abbrev pub is_about : ℕ → ℕ → ClientEvent → Bool
is_about id role (Open user) = false
is_about id role (Activate session user r) = (id == session) && (role == r)
is_about id role (DropRole session user r) = (id == session) && (role == r)
is_about id role (Close session user) = false

-- how many sessions were opened
unfoldable pub opened_count : List ClientEvent → ℕ
opened_count events = count_by is_opening events

-- the life of the session that the j-th Open made, counted from 1
unfoldable pub life_of : ℕ → List ClientEvent → Option Life
life_of j [] = None
life_of j (Open user ∷ later) = if j == 1 then Some (record { user = user; later = later }) else life_of (j - 1) later
life_of j (Activate session user role ∷ later) = life_of j later
life_of j (DropRole session user role ∷ later) = life_of j later
life_of j (Close session user ∷ later) = life_of j later

-- the roles of which the last event in the session activates them, in the order of those events
unfoldable pub active_roles : ℕ → List ClientEvent → List ℕ
active_roles id [] = []
active_roles id (Open user ∷ later) = active_roles id later
active_roles id (Activate session user role ∷ later) =
    if (id == session) && not (list_any (is_about id role) later) then role ∷ active_roles id later
    else active_roles id later
active_roles id (DropRole session user role ∷ later) = active_roles id later
active_roles id (Close session user ∷ later) = active_roles id later

-- the session, unless a Close of it follows its Open
abbrev pub while_open : ℕ → Life → Option Session
while_open id life =
    if list_any (is_closing id) life.later then None else Some (record {
      user = life.user;
      active = active_roles id life.later;
    })

-- the session with this id, if it is open
unfoldable pub session_in : List ClientEvent → ℕ → Option Session
session_in events id = option_and_then (while_open id) (life_of id events)

-- how many sessions were opened, and those that are open, by their ids
pub record SessionState : Type 0 where
  pub opened : ℕ
  pub open_sessions : map.FinMap nat_cmp Session

-- the session beside its id
abbrev pub entry_in : List ClientEvent → ℕ → Option (ℕ × Session)
entry_in events id = option_map (λ (session : Session). (id, session)) (session_in events id)

-- what all that the clients did amounts to
unfoldable pub state_of : List ClientEvent → SessionState
state_of events =
    record {
      opened = opened_count events;
      open_sessions = map.from_entries (filter_map (entry_in events) (range_with_len 1 (opened_count events)));
    }

-- the event happened: whatever the clients did before, the new state is that of it all with the event at its end
abbrev pub Happened : ClientEvent → SessionState → SessionState → Type 0
Happened event old new = (events : List ClientEvent) → old ≡ state_of events → new ≡ state_of (events ++ event ∷ [])
