-- How many sessions are open, as clients act.
use Rattle.std.proofs.Common.{◌≡◌, ℕ, zero, suc, ◌+◌, ◌-◌, ◌≤◌, Bool, true, false, cond, not, List, [], ◌∷◌, ◌++◌, length}
use Rattle.std.proofs.Common.{Option, Some, None, Ok, refl, sym, ap, ◌∙◌, arith, ◌==◌}
use Rattle.std.specs.Prelude.{if◌then◌else◌, nat_le, is_some}
use Rattle.std.proofs.lemmas.Bool.Decides.{nat_tests}
use Rattle.std.specs.Cmp.{nat_cmp_total}
use Rattle.std.specs.FinMap as map
use Rattle.std.specs.FinMap.{len-insert, len-remove, len-empty}
use Rattle.std.specs.List.{list_any}
use Rattle.std.specs.Option.{option_map, option_map_or}
use Rattle.std.specs.Ordering.{nat_cmp}
use Rattle.role_commands.specs.Tables.{Table}
use Rattle.bracha_instance.specs.declared.instance.Effect.TheVariants as effect
use Rattle.role_sessions.proofs.Exported.{state_of-none, state_of-opened, state_of-activated, state_of-dropped}
use Rattle.role_sessions.proofs.Exported.{state_of-closed}
use Rattle.role_sessions.specs.Decisions.{Relations}
use Rattle.role_sessions.specs.Refusals.{most_sessions, most_active_roles, open_due, activate_in, close_in}
use Rattle.role_sessions.specs.Refusals.{activate_due, close_due}
use Rattle.role_sessions.specs.Sessions.{Session, SessionState, state_of}
use Rattle.role_sessions.specs.declared.event.ClientEvent.{ClientEvent}
use Rattle.role_sessions.specs.declared.event.ClientEvent.TheVariants.{Open, Activate, DropRole, Close}
use Rattle.role_sessions.specs.declared.faults.SessionFault.{SessionFault}
use Rattle.role_sessions.specs.declared.faults.SessionFault.TheVariants as session
use Rattle.role_node.specs.Access.{relations_at, sessions_at}
use Rattle.role_node.specs.Answers.{act_fault, or_counted, answer_due, is_recorded, IsLegal}
use Rattle.role_node.specs.Configs.{ConfigValue}
use Rattle.role_node.specs.Faults.{of_session_fault}
use Rattle.role_node.specs.Histories.{client_events}
use Rattle.role_node.specs.declared.event.Event.{Event}
use Rattle.role_node.specs.declared.event.Event.TheVariants as event
use Rattle.role_node.specs.declared.faults.NodeFault.{NodeFault}
use Rattle.role_node.specs.declared.faults.NodeFault.TheVariants as fault
use Rattle.role_node.proofs.Exported.{along_legal, client_events-none}
use Rattle.owner_shares.specs.Laws.{open_count}
use Rattle.owner_shares.proofs.Parts.{open_count-Issue, open_count-Take, open_count-Client, counts_with_room}

abbrev Sessions : Type 0
Sessions = map.FinMap nat_cmp Session

-- What each act makes of the number.

abbrev count_after : List ClientEvent → ClientEvent → ℕ
count_after acts act = map.len (state_of (acts ++ act ∷ [])).open_sessions

abbrev count_of : List ClientEvent → ℕ
count_of acts = map.len (state_of acts).open_sessions

one_more_at_most : (b : Bool) (n m : ℕ) → m ≡ cond b n (n + 1) → m ≤ n + 1
one_more_at_most true n m e = omega (arith, e)
one_more_at_most false n m e = omega (arith, e)

after_open : (acts : List ClientEvent) (user : ℕ) → count_after acts (Open user) ≤ count_of acts + 1
after_open acts user =
    one_more_at_most _ _ _
    (sym (ap (λ (s : SessionState). map.len s.open_sessions) (state_of-opened acts user))
    ∙ len-insert nat_cmp_total (state_of acts).open_sessions _ _)

len-changed : (m : Sessions) (id : ℕ) (change : Session → Session) (o : Option Session) → map.get m id ≡ o →
    map.len (option_map_or (λ x. map.insert m id (change x)) o m) ≡ map.len m
len-changed m id change None e = refl
len-changed m id change (Some found) e =
    len-insert nat_cmp_total m id (change found)
    ∙ ap (λ o. cond (is_some o) (map.len m) (map.len m + 1)) e

after_drop : (acts : List ClientEvent) (id user role : ℕ) → count_after acts (DropRole id user role) ≡ count_of acts
after_drop acts id user role =
    sym (ap (λ (s : SessionState). map.len s.open_sessions) (state_of-dropped acts id user role))
    ∙ len-changed (state_of acts).open_sessions id _ _ refl

-- no fault is due: the role isn't active in the session
not_active : (yours there has active full : Bool) →
    (if not yours then Some session.NotYours
    else (if not there then Some session.NoSuchRole else (if not has then Some session.NotAssigned
    else (if active then Some session.AlreadyActive else (if full then Some session.TooManyRoles else None))))) ≡ None
    → active ≡ false
not_active false there has active full e = absurd (cc)
not_active true false has active full e = absurd (cc)
not_active true true false active full e = absurd (cc)
not_active true true true true full e = absurd (cc)
not_active true true true false full e = refl

pub record IsActivable (o : Option Session) (role : ℕ) : Type 0 where
  pub found : Session
  pub there : o ≡ Some found
  pub fresh : list_any (λ active. active == role) found.active ≡ false

activable : (table : Table) (relations : Relations) (o : Option Session) (user role : ℕ) →
    activate_in table relations o user role ≡ None → IsActivable o role
activable table relations None user role e = absurd (cc)
activable table relations (Some found) user role e =
    record {
      found = found;
      there = refl;
      fresh = not_active (found.user == user) (map.contains_key table.owners role) (relations.assigned user role)
          (list_any (λ active. active == role) found.active) (nat_le most_active_roles (length found.active)) e;
    }

after_activate : (acts : List ClientEvent) (id user role : ℕ) → IsActivable (map.get (state_of acts).open_sessions id) role
    → count_after acts (Activate id user role) ≡ count_of acts
after_activate acts id user role is =
    sym (ap (λ (s : SessionState). map.len s.open_sessions)
    (state_of-activated acts id user role is.found is.there is.fresh))
    ∙ len-changed (state_of acts).open_sessions id _ _ refl

some_open : (m : Sessions) (id n : ℕ) → map.len m ≡ n → is_some (map.get m id) ≡ true → 1 ≤ n
some_open m id zero e some =
    let none : map.get m id ≡ None = ap (λ s. map.get s id) (map.empty_of_len m e) ∙ map.get-empty nat_cmp id in
    absurd (cc)
some_open m id (suc n) e some = omega arith

one_less : (b : Bool) (n m : ℕ) → b ≡ true → m ≡ cond b (n - 1) n → 1 ≤ n → m + 1 ≤ n
one_less true n m some e more = omega (arith, e, more)
one_less false n m some e more = absurd cc

after_close : (acts : List ClientEvent) (id user : ℕ) → is_some (map.get (state_of acts).open_sessions id) ≡ true →
    count_after acts (Close id user) + 1 ≤ count_of acts
after_close acts id user there =
    let m : Sessions = (state_of acts).open_sessions in
    one_less _ (map.len m) _ there
    (sym (ap (λ (s : SessionState). map.len s.open_sessions) (state_of-closed acts id user))
    ∙ len-remove nat_cmp_total m id)
    (some_open m id _ refl there)

-- What is known of an act that is recorded.

none_mapped : {A B : Type 0} (f : A → B) (o : Option A) → option_map f o ≡ None → o ≡ None
none_mapped f None e = refl
none_mapped f (Some x) e = absurd cc

no_fault : (o : Option NodeFault) → or_counted o ≡ Ok effect.Counted → o ≡ None
no_fault None e = refl
no_fault (Some f) e = absurd cc

abbrev fault_of : ConfigValue → List Event → ClientEvent → Option NodeFault
fault_of config past act = act_fault config.roles (relations_at config.roles past) (sessions_at past) act

not_refused : (config : ConfigValue) (me : ℕ) (past : List Event) (act : ClientEvent) →
    is_recorded (answer_due config me past (event.Client act)) ≡ true → fault_of config past act ≡ None
not_refused config me past act recorded =
    no_fault _ (counts_with_room config me past (event.Client act) recorded)

none_if : (b : Bool) (f : SessionFault) → (if b then Some f else None) ≡ None → b ≡ false
none_if true f e = absurd cc
none_if false f e = refl

fewer_open : (n : ℕ) → nat_le most_sessions n ≡ false → n + 1 ≤ most_sessions
fewer_open n e = grind (arith, nat_tests)

is_open : (o : Option Session) (user : ℕ) → close_in o user ≡ None → is_some o ≡ true
is_open None user e = absurd cc
is_open (Some found) user e = refl

few_after : (config : ConfigValue) (me : ℕ) (past : List Event) (act : ClientEvent) → fault_of config past act ≡ None →
    open_count past ≤ most_sessions → count_after (client_events past) act ≤ most_sessions
few_after config me past (Open user) none few =
    let acts : List ClientEvent = client_events past in
    let fewer = fewer_open _ (none_if _ _ (none_mapped of_session_fault (open_due (sessions_at past)) none)) in
    omega (arith, after_open acts user, fewer)
few_after config me past (Activate id user role) none few =
    let acts : List ClientEvent = client_events past in
    let due = none_mapped of_session_fault
    (activate_due config.roles (relations_at config.roles past) (sessions_at past) id user role) none in
    let same = after_activate acts id user role
    (activable config.roles (relations_at config.roles past) (map.get (sessions_at past).open_sessions id) user role due) in
    omega (arith, same, few)
few_after config me past (DropRole id user role) none few =
    omega (arith, after_drop (client_events past) id user role, few)
few_after config me past (Close id user) none few =
    let due = none_mapped fault.End (close_due (sessions_at past) id user) none in
    let less = after_close (client_events past) id user (is_open _ user due) in
    omega (arith, less, few)

-- Along a history.

-- an act that is recorded leaves no more sessions open than may be
pub few_next : (config : ConfigValue) (me : ℕ) (past : List Event) (e : Event) →
    is_recorded (answer_due config me past e) ≡ true → open_count past ≤ most_sessions →
    open_count (past ++ e ∷ []) ≤ most_sessions
few_next config me past (event.Issue c) recorded few = omega (arith, open_count-Issue past c, few)
few_next config me past (event.Take p) recorded few = omega (arith, open_count-Take past p, few)
few_next config me past (event.Client act) recorded few =
    omega (
      arith,
      open_count-Client past act,
      few_after config me past act (not_refused config me past act recorded) few,
    )

pub none_open : open_count [] ≡ 0
none_open =
    ap (λ acts. map.len (state_of acts).open_sessions) client_events-none
    ∙ sym (ap (λ (s : SessionState). map.len s.open_sessions) state_of-none) ∙ len-empty nat_cmp Session

-- in a legal history no more sessions are open than may be
pub few_open : (config : ConfigValue) (me : ℕ) (history : List Event) → IsLegal config me history →
    open_count history ≤ most_sessions
few_open config me history legal =
    along_legal config me (λ past. open_count past ≤ most_sessions) (few_next config me) [] history legal
    (omega (arith, none_open))

-- a close that is recorded leaves one session fewer open
pub one_fewer_open : (config : ConfigValue) (me : ℕ) (past : List Event) (id user : ℕ) →
    is_recorded (answer_due config me past (event.Client (Close id user))) ≡ true →
    open_count (past ++ event.Client (Close id user) ∷ []) + 1 ≤ open_count past
one_fewer_open config me past id user recorded =
    let none = not_refused config me past (Close id user) recorded in
    let due = none_mapped fault.End (close_due (sessions_at past) id user) none in
    omega (
      arith,
      open_count-Client past (Close id user),
      after_close (client_events past) id user (is_open _ user due),
    )
