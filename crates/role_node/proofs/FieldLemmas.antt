-- What a node's fields keep when an event is recorded, and when none is.
use Rattle.std.proofs.Common.{◌≡◌, ℕ, ◌<◌, ◌≤◌, Bool, true, false, ◌&&◌, ◌==◌, List, [], ◌∷◌, ◌++◌, length}
use Rattle.std.proofs.Common.{Some, None, Result, Ok, Err, refl, sym, ap, ◌∙◌, subst, arith, length-append}
use Rattle.std.specs.Prelude.{if◌then◌else◌, nat_le, nat_lt}
use Rattle.std.proofs.lemmas.Bool.{ltb-true}
use Rattle.std.proofs.lemmas.Bool.Decides.{nat_tests}
use Rattle.role_commands.specs.Tables.{Table}
use Rattle.bracha_instance.specs.declared.instance.Effect.{Effect}
use Rattle.bracha_instance.specs.declared.instance.Effect.TheVariants as effect
use Rattle.owner_streams.specs.Places.{place_count}
use Rattle.owner_streams.specs.Steps.{step_due, effect_due}
use Rattle.owner_streams.specs.declared.steps.StreamFault.{StreamFault}
use Rattle.role_sessions.specs.Sessions.{state_of}
use Rattle.role_sessions.proofs.Exported.{state_counts_the_opened}
use Rattle.role_node.specs.Configs.{most_events}
use Rattle.role_node.specs.Histories.{issued, packets, client_events}
use Rattle.role_node.specs.Answers.{EntryValue, outlook, outlook_with_room, or_counted, is_routed, of_effect_due}
use Rattle.role_node.specs.Answers.{reply_to}
use Rattle.role_node.specs.inside.Fields.{IsNode, node_value}
use Rattle.role_node.specs.Nodes.{NodeValue}
use Rattle.role_node.specs.inside.Kept.{IsStateAfter, Stays, Follows, IsEntryFor, IsInRange, events}
use Rattle.role_node.specs.inside.Noting.{IsNotedOf}
use Rattle.role_node.specs.declared.event.Event.{Event}
use Rattle.role_node.specs.declared.event.Event.TheVariants.{Issue, Take, Client}
use Rattle.role_node.specs.declared.event.Reply.{Reply}
use Rattle.role_node.specs.declared.faults.NodeFault.{NodeFault}
use Rattle.role_node.specs.declared.faults.NodeFault.TheVariants as fault
use Rattle.role_node.specs.declared.node.Node.TheInside.{Inside}
use Rattle.role_node.specs.declared.state.State.{State}
use Rattle.role_node.proofs.HistoryLemmas.{client_events-length}
use Rattle.role_node.proofs.EntryLemmas.{no_entries, entries_push, events-push, events-length}
use Rattle.role_node.proofs.EntryLemmas.{counted_is_due, counted_is_recorded, counted_with_room}

-- a node that has recorded nothing
pub inside_begins : {a : Inside} → a.me < a.config.roles.sizes.nodes → a.config.limit ≤ most_events →
    a.entries.items ≡ [] → IsStateAfter a.config.roles [] a.state → IsNotedOf a.config.roles.sizes a.me [] a.noted →
    IsNode a
inside_begins {a = a} me limit none state noted =
    record {
      me = me;
      limit = limit;
      within = rw none (omega arith);
      entries = rw none (no_entries a.config a.me);
      state = rw none state;
      noted = rw none noted;
    }

-- room that was made changes nothing of this
pub inside_stays : {a b : Inside} → IsNode a → b.config ≡ a.config → b.me ≡ a.me → b.entries.items ≡ a.entries.items
    → b.noted ≡ a.noted → Stays a.state b.state → IsNode b
inside_stays {a = a} is ec em ee en stays =
    record {
      me = rw (ec, em) is.me;
      limit = rw ec is.limit;
      within = rw (ec, ee) is.within;
      entries = rw (ec, em, ee) is.entries;
      state = rw (ec, ee) (stays a.config.roles (events a.entries.items) is.state);
      noted = rw (ec, em, ee, en) is.noted;
    }

-- an event that counts is recorded
pub inside_grows : {a b : Inside} {entry : EntryValue} (event : Event) → IsNode a → b.config ≡ a.config → b.me ≡ a.me →
    b.entries.items ≡ a.entries.items ++ entry ∷ [] → Follows event a.state b.state →
    outlook a.config a.me (events a.entries.items) event ≡ Ok effect.Counted → IsEntryFor a.me event a.state entry →
    IsNotedOf a.config.roles.sizes a.me (events a.entries.items ++ event ∷ []) b.noted → IsNode b
inside_grows {a = a} event is ec em pushed follows counts is_entry noted =
    let history : List Event = events a.entries.items in
    let r : Reply = reply_to a.config.roles a.me history event in
    let entry : EntryValue = record { event = event; reply = r } in
    let ee = pushed ∙ ap (λ e. a.entries.items ++ e ∷ []) (is_entry a.config.roles history is.state) in
    let room = counted_with_room a.config a.me history event counts in
    let full : nat_le a.config.limit (length history) ≡ false = room.0 in
    let shorter : length (events a.entries.items) < a.config.limit = grind (arith, nat_tests) in
    let within : length (a.entries.items ++ entry ∷ []) ≤ a.config.limit =
    omega (arith, length-append a.entries.items (entry ∷ []), events-length a.entries.items) in
    record {
      me = rw (ec, em) is.me;
      limit = rw ec is.limit;
      within = rw (ec, ee) within;
      entries = rw (ec, em, ee)
          (entries_push a.config a.me a.entries.items entry is.entries
          (counted_is_due a.config a.me history event r counts refl)
          (counted_is_recorded a.config.roles a.me history event r refl));
      state = rw (ec, ee, events-push a.entries.items entry) (follows a.config.roles history is.state);
      noted = rw (ec, em, ee, events-push a.entries.items entry) noted;
    }

-- that an event counts, by the fields
pub counts_inside : (a : Inside) (v : NodeValue) (event : Event) → node_value a ≡ v →
    outlook v.config v.me v.history event ≡ Ok effect.Counted
    → outlook a.config a.me (events a.entries.items) event ≡ Ok effect.Counted
counts_inside a v event e counts =
    let P : NodeValue → Type 0 = λ n. outlook n.config n.me n.history event ≡ Ok effect.Counted in
    subst P (sym e) counts

pub second_test : (a b c : Bool) →
    or_counted (if a then Some fault.NotMine
    else (if b then Some fault.StreamFull else (if c then Some fault.Busy else None))) ≡ Ok effect.Counted
    → b ≡ false
second_test true b c e = absurd cc
second_test false true c e = absurd cc
second_test false false c e = refl

pub routed_by : (routed : Bool) (r : Result Effect NodeFault)
    → (if routed then r else Err fault.Misrouted) ≡ Ok effect.Counted
    → routed ≡ true
routed_by true r e = refl
routed_by false r e = absurd cc

pub last_two : (a b c : Bool) → (a && b && c) ≡ true → (b ≡ true) × (c ≡ true)
last_two true true true e = (refl, refl)
last_two true true false e = absurd cc
last_two true false c e = absurd cc
last_two false b c e = absurd cc

pub counted_by : (routed : Bool) (r : Result Effect StreamFault)
    → (if routed then of_effect_due r else Err fault.Misrouted) ≡ Ok effect.Counted → r ≡ Ok effect.Counted
counted_by true (Ok e) h = cc
counted_by true (Err f) h = absurd cc
counted_by false r h = absurd cc

-- what counts is in range
pub in_range : (roles : Table) (me : ℕ) (history : List Event) (a : State) (event : Event)
    → IsStateAfter roles history a →
    outlook_with_room roles me history event ≡ Ok effect.Counted → length history ≤ most_events → IsInRange a event
in_range roles me history a (Issue c) h e room =
    let more : nat_le place_count (length (issued history)) ≡ false = second_test _ _ _ e in
    let same : length a.issued.items ≡ length (issued history) = ap length h.issued in
    let short : length (issued history) < place_count = grind (arith, nat_tests) in
    omega (arith, a.issued.ok.0)
in_range roles me history a (Take p) h e room =
    let both =
    last_two (p.to == me) (nat_lt p.from roles.sizes.nodes) (nat_lt p.owner roles.sizes.nodes)
    (routed_by (is_routed roles.sizes me p) _ e) in
    let due : effect_due (step_due roles.sizes (packets history) p) ≡ Ok effect.Counted =
    counted_by (is_routed roles.sizes me p) _ e in (
      rw h.sizes (ltb-true p.from roles.sizes.nodes both.0),
      rw h.sizes (ltb-true p.owner roles.sizes.nodes both.1),
      (packets history, h.streams, h.sends, rw h.sizes due),
    )
in_range roles me history a (Client act) h e room =
    let opened : a.sessions.state.opened ≡ (state_of (client_events history)).opened = ap (λ s. s.opened) h.sessions in
    let few = state_counts_the_opened (client_events history) in
    let acts = client_events-length history in
    omega (arith, few.0, few.1)

-- a history is no longer than the most events
pub events_are_few : (a : Inside) → IsNode a → length (events a.entries.items) ≤ most_events
events_are_few a is =
    let within = is.within in
    let limit = is.limit in
    omega (arith, events-length a.entries.items)

-- .. and no more acts of clients stand in it
pub acts_are_few : (a : Inside) → IsNode a → a.noted.acts ≤ most_events
acts_are_few a is =
    let acts = client_events-length (events a.entries.items) in
    omega (arith, acts, is.noted.acts, events_are_few a is)
