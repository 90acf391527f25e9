-- What holds of a kept node's fields, from one call to the next.
use Rattle.std.proofs.Common.{◌≡◌, ℕ, ◌+◌, ◌<◌, ◌≤◌, Bool, true, false, List, [], ◌∷◌, ◌++◌}
use Rattle.std.proofs.Common.{length, take, refl, ap, sym, ◌∙◌, subst, arith, append_assoc, append-nil}
use Rattle.std.proofs.Common.{length-append, ◌⊎◌, inl, inr, ⊎_elim, Ok}
use Rattle.std.specs.Prelude.{IsTrue, All}
use Rattle.std.specs.List.{concat}
use Rattle.std.proofs.Math.Seq.{take-append_seam}
use Rattle.std.proofs.lemmas.Bool.{cases_lt}
use Rattle.std.proofs.lemmas.List.Concat.{flat_map-append}
use Rattle.std.proofs.lemmas.List.Elements.{All-append}
use Rattle.quorum_sizes.specs.Sizes.{AreSizes}
use Rattle.role_commands.specs.declared.command.Command.{Command}
use Rattle.role_commands.specs.declared.command.Command.TheVariants.{Assign, Deassign, Grant, Revoke, Clear}
use Rattle.role_sessions.specs.declared.event.ClientEvent.{ClientEvent}
use Rattle.role_sessions.specs.declared.event.ClientEvent.TheVariants.{Open, Activate, DropRole, Close}
use Rattle.batch_journal.specs.Digits.{digits_of, AreDigits}
use Rattle.batch_journal.specs.Faults.{Failed}
use Rattle.batch_journal.specs.Journals as journals
use Rattle.batch_journal.specs.Journals.{JournalValue, IsSame, Records}
use Rattle.batch_journal.specs.Readings.{reading}
use Rattle.batch_journal.specs.declared.fault.JournalFault.{JournalFault}
use Rattle.batch_journal.specs.declared.fault.JournalFault.TheVariants.{Device, Full}
use Rattle.role_node.specs.Nodes.{NodeValue, with_event}
use Rattle.role_node.specs.declared.event.Event.{Event}
use Rattle.role_node.specs.declared.event.Event.TheVariants.{Issue, Take, Client}
use Rattle.node_lock.specs.Holds.{Held, end_of}
use Rattle.kept_node.specs.Events.{IsEventOf, event_digits, digits_of_events, command_digits, act_digits, behind_number}
use Rattle.kept_node.specs.Events.{event_number}
use Rattle.kept_node.specs.NodeHeads.{IsHeadOf}
use Rattle.kept_node.specs.Keeping.{IsFront, Survives}
use Rattle.kept_node.specs.inside.Fields.{IsWritten, IsKept, IsCommitted}
use Rattle.kept_node.proofs.DigitLemmas.{digits-digits_of, digits-append}
use Rattle.kept_node.proofs.HistoryLemmas.{All-take, All-cons, digits_more}

pub concat-append : (a b : List (List ℕ)) → concat (a ++ b) ≡ concat a ++ concat b
concat-append [] b = refl
concat-append (x ∷ a) b = ap (λ (l : List ℕ). x ++ l) (concat-append a b) ∙ sym (append_assoc x (concat a) (concat b))

-- ---- an event's digits are digits

command_are : (c : Command) → AreDigits (command_digits c)
command_are (Assign user role) = digits-append (digits_of 3 role) (digits_of 5 user) (digits-digits_of 3 role)
    (digits-digits_of 5 user)
command_are (Deassign user role) = digits-append (digits_of 3 role) (digits_of 5 user) (digits-digits_of 3 role)
    (digits-digits_of 5 user)
command_are (Grant role operation object) =
    digits-append (digits_of 3 role ++ digits_of 3 operation) (digits_of 5 object)
    (digits-append (digits_of 3 role) (digits_of 3 operation) (digits-digits_of 3 role) (digits-digits_of 3 operation))
    (digits-digits_of 5 object)
command_are (Revoke role operation object) =
    digits-append (digits_of 3 role ++ digits_of 3 operation) (digits_of 5 object)
    (digits-append (digits_of 3 role) (digits_of 3 operation) (digits-digits_of 3 role) (digits-digits_of 3 operation))
    (digits-digits_of 5 object)
command_are (Clear role) = digits-digits_of 3 role

session_are : (session user role : ℕ) → AreDigits ((digits_of 10 session ++ digits_of 5 user) ++ digits_of 3 role)
session_are session user role =
    digits-append (digits_of 10 session ++ digits_of 5 user) (digits_of 3 role)
    (digits-append (digits_of 10 session) (digits_of 5 user) (digits-digits_of 10 session) (digits-digits_of 5 user))
    (digits-digits_of 3 role)

act_are : (act : ClientEvent) → AreDigits (act_digits act)
act_are (Open user) = digits-digits_of 5 user
act_are (Activate session user role) = session_are session user role
act_are (DropRole session user role) = session_are session user role
act_are (Close session user) = digits-append (digits_of 10 session) (digits_of 5 user) (digits-digits_of 10 session)
    (digits-digits_of 5 user)

behind_are : (e : Event) → AreDigits (behind_number e)
behind_are (Issue c) = command_are c
behind_are (Take p) =
    digits-append ((digits_of 2 p.from ++ digits_of 2 p.owner) ++ digits_of 3 p.place) (command_digits p.command)
    (digits-append (digits_of 2 p.from ++ digits_of 2 p.owner) (digits_of 3 p.place)
    (digits-append (digits_of 2 p.from) (digits_of 2 p.owner) (digits-digits_of 2 p.from) (digits-digits_of 2 p.owner))
    (digits-digits_of 3 p.place)) (command_are p.command)
behind_are (Client act) = act_are act

pub event_are : (e : Event) → AreDigits (event_digits e)
unfolding event_digits
event_are e = digits-append (digits_of 1 (event_number e)) (behind_number e) (digits-digits_of 1 (event_number e))
    (behind_are e)

-- ---- what a crash leaves

module _ {D : Type 0} where
  -- the file that is read as these batches stands for a prefix of the history
  front_made : (j : JournalValue D) (node : NodeValue) (c : List ℕ) (synced count : ℕ) (batches : List (List ℕ))
      (front rest : List Event) → IsHeadOf node.config node.me j.head →
      All (IsEventOf node.config.roles.sizes node.me) node.history → reading j.key j.head c ≡ Ok batches →
      concat batches ≡ digits_of_events front → node.history ≡ front ++ rest → synced ≤ length front →
      IsFront synced j.key node c
  front_made j node c synced count batches front rest head each reads digits history enough =
      let same : take (length front) node.history ≡ front =
      ap (take (length front)) history ∙ take-append_seam front rest in
      record {
        count = length front;
        enough = enough;
        within = omega (arith, ap length history, length-append front rest);
        stands = record {
          head = j.head;
          batches = batches;
          is_head = head;
          reads = reads;
          digits = digits ∙ sym (ap digits_of_events same);
          each = All-take (IsEventOf node.config.roles.sizes node.me) (length front) node.history each;
        };
      }

  front_of : (j : JournalValue D) (node : NodeValue) (waiting : List ℕ) (synced : ℕ) (c : List ℕ) →
      IsHeadOf node.config node.me j.head → All (IsEventOf node.config.roles.sizes node.me) node.history →
      IsWritten j waiting node.history synced →
      journals.IsFront j.synced j.batches (reading j.key j.head c) → IsFront synced j.key node c
  front_of j node waiting synced c head each w f = go w.last refl w.one
    where
      settled : take f.count j.batches ≡ w.settled → IsFront synced j.key node c
      settled is = front_made j node c synced f.count w.settled w.first (w.second ++ w.third) head each
          (f.is ∙ ap Ok is) w.first_digits w.history_is (omega (arith, w.synced_is))

      whole : take f.count j.batches ≡ w.settled ++ w.last → IsFront synced j.key node c
      whole is =
          let digits : concat (w.settled ++ w.last) ≡ digits_of_events (w.first ++ w.second) =
          concat-append w.settled w.last ∙ (λ i. w.first_digits i ++ w.second_digits i)
          ∙ sym (flat_map-append event_digits w.first w.second) in
          front_made j node c synced f.count (w.settled ++ w.last) (w.first ++ w.second) w.third head each
          (f.is ∙ ap Ok is) digits (w.history_is ∙ sym (append_assoc w.first w.second w.third))
          (omega (arith, w.synced_is, length-append w.first w.second))

      front : f.count ≡ length w.settled → take f.count j.batches ≡ w.settled
      front e = (λ i. take (e i) (w.batches i)) ∙ take-append_seam w.settled w.last

      all : f.count ≡ length (w.settled ++ w.last) → take f.count j.batches ≡ w.settled ++ w.last
      all e = (λ i. take (e i) (w.batches i))
          ∙ ap (take (length (w.settled ++ w.last))) (sym (append-nil (w.settled ++ w.last)))
          ∙ take-append_seam (w.settled ++ w.last) []

      long : length j.batches ≡ length w.settled + length w.last
      long = ap length w.batches ∙ length-append w.settled w.last

      go : (last : List (List ℕ)) → w.last ≡ last → length w.last ≤ 1 → IsFront synced j.key node c
      go last e few =
          elim (cases_lt f.count (length w.settled + 1)) [
            | inl less ↦ settled (front (omega (arith, f.enough, w.count)))
            | inr more ↦ whole (all (omega (arith, f.within, long, length-append w.settled w.last)))
          ]

  pub kept_survives : (may_leave : D → List ℕ → Type 0) (is_clean : D → Bool) (held : Held) (j : JournalValue D)
      (waiting : List ℕ) (capacity recorded synced : ℕ) →
      IsKept may_leave is_clean held j waiting capacity recorded synced →
      Survives may_leave is_clean
      (record { held = held; disk = j.disk; key = j.key; synced = synced; broken = j.broken })
  kept_survives may_leave is_clean held j waiting capacity recorded synced k clean c may =
      front_of j held.node waiting synced c k.head k.each (k.written clean) (k.survives clean c may)

  -- ---- from one call to the next

  -- a node that is restored
  pub kept_restored : (may_leave : D → List ℕ → Type 0) (is_clean : D → Bool) (held : Held) (j : JournalValue D)
      (waiting : List ℕ) (capacity count : ℕ) → count ≡ end_of held → waiting ≡ [] →
      AreSizes held.node.config.roles.sizes → All (IsEventOf held.node.config.roles.sizes held.node.me)
      held.node.history →
      IsHeadOf held.node.config held.node.me j.head → 19497 ≤ j.room → 19456 ≤ capacity →
      j.synced ≡ length j.batches → journals.Survives may_leave is_clean j →
      (IsTrue (is_clean j.disk) → concat j.batches ≡ digits_of_events held.node.history) →
      IsKept may_leave is_clean held j waiting capacity count count
  kept_restored may_leave is_clean held j waiting capacity count e none sizes each head room wide settled survives
      digits =
      record {
        recorded_is = e;
        within = omega arith;
        few = omega arith;
        sizes = sizes;
        each = each;
        head = head;
        room = room;
        capacity_is = wide;
        short = omega (arith, ap length none);
        digits = subst AreDigits (sym none) refl;
        settled = λ h. settled;
        survives = survives;
        written = λ h. record {
          settled = j.batches;
          last = [];
          first = held.node.history;
          second = [];
          third = [];
          batches = sym (append-nil j.batches);
          count = settled;
          one = omega arith;
          first_digits = digits h;
          second_digits = refl;
          third_digits = none;
          history_is = sym (append-nil held.node.history);
          synced_is = e;
        };
      }

  -- an event is recorded, and its digits wait
  pub kept_put : (may_leave : D → List ℕ → Type 0) (is_clean : D → Bool) (held : Held) (j : JournalValue D)
      (waiting : List ℕ) (capacity recorded synced : ℕ) (e : Event) (seats : List ℕ) (now : List ℕ) (wide at : ℕ) →
      IsKept may_leave is_clean held j waiting capacity recorded synced → recorded < synced + 1024 →
      IsEventOf held.node.config.roles.sizes held.node.me e → now ≡ waiting ++ event_digits e →
      length now ≤ length waiting + 19 → capacity ≤ wide → at ≡ recorded + 1 →
      IsKept may_leave is_clean (record { node = with_event held.node e; seats = seats }) j now wide at synced
  kept_put may_leave is_clean held j waiting capacity recorded synced e seats now wide at k less of digits long more
      is =
      let count : length (held.node.history ++ e ∷ []) ≡ length held.node.history + 1 =
      length-append held.node.history (e ∷ []) in
      record {
        recorded_is = omega (arith, is, k.recorded_is, count);
        within = omega (arith, is, k.within);
        few = omega (arith, is);
        sizes = k.sizes;
        each = All-append (IsEventOf held.node.config.roles.sizes held.node.me) held.node.history (e ∷ []) k.each
            (All-cons (IsEventOf held.node.config.roles.sizes held.node.me) e [] of
            (All-take (IsEventOf held.node.config.roles.sizes held.node.me) 0 held.node.history k.each));
        head = k.head;
        room = k.room;
        capacity_is = omega (arith, k.capacity_is);
        short = omega (arith, is, k.short, k.within);
        digits = subst AreDigits (sym digits) (digits-append waiting (event_digits e) k.digits (event_are e));
        settled = k.settled;
        survives = k.survives;
        written = λ h. let w = k.written h in record {
          settled = w.settled;
          last = w.last;
          first = w.first;
          second = w.second;
          third = w.third ++ e ∷ [];
          batches = w.batches;
          count = w.count;
          one = w.one;
          first_digits = w.first_digits;
          second_digits = w.second_digits;
          third_digits = digits ∙ ap (λ (l : List ℕ). l ++ event_digits e) w.third_digits ∙ sym (digits_more w.third e);
          history_is = ap (λ (l : List Event). l ++ e ∷ []) w.history_is
              ∙ append_assoc w.first (w.second ++ w.third) (e ∷ [])
              ∙ ap (λ (l : List Event). w.first ++ l) (append_assoc w.second w.third (e ∷ []));
          synced_is = w.synced_is;
        };
      }

  -- all that waited is written and synced
  pub kept_committed : (may_leave : D → List ℕ → Type 0) (is_clean : D → Bool) (held : Held) (j new : JournalValue D)
      (waiting : List ℕ) (capacity recorded synced : ℕ) (now : List ℕ) (wide : ℕ) →
      IsKept may_leave is_clean held j waiting capacity recorded synced → IsSame is_clean j new →
      IsCommitted is_clean j new waiting → now ≡ [] → j.room ≤ new.room → wide ≡ capacity →
      journals.Survives may_leave is_clean new →
      IsKept may_leave is_clean held new now wide recorded recorded
  kept_committed may_leave is_clean held j new waiting capacity recorded synced now wide k same done none room is
      survives =
      record {
        recorded_is = k.recorded_is;
        within = omega arith;
        few = omega arith;
        sizes = k.sizes;
        each = k.each;
        head = subst (IsHeadOf held.node.config held.node.me) (sym same.head) k.head;
        room = omega (arith, k.room);
        capacity_is = omega (arith, k.capacity_is);
        short = omega (arith, ap length none);
        digits = subst AreDigits (sym none) refl;
        settled = λ h. done.synced;
        survives = survives;
        written = λ h.
            let was : IsTrue (is_clean j.disk) = sym same.clean ∙ h in
            let w = k.written was in
            let all : concat new.batches ≡ digits_of_events held.node.history =
            ap concat (done.batches was) ∙ concat-append j.batches (waiting ∷ [])
            ∙ (λ i. concat (w.batches i) ++ append-nil waiting i)
            ∙ (λ i. concat-append w.settled w.last i ++ w.third_digits i)
            ∙ (λ i. (w.first_digits i ++ w.second_digits i) ++ digits_of_events w.third)
            ∙ append_assoc (digits_of_events w.first) (digits_of_events w.second) (digits_of_events w.third)
            ∙ (λ i. digits_of_events w.first ++ sym (flat_map-append event_digits w.second w.third) i)
            ∙ sym (flat_map-append event_digits w.first (w.second ++ w.third))
            ∙ ap digits_of_events (sym w.history_is) in
            record {
              settled = new.batches;
              last = [];
              first = held.node.history;
              second = [];
              third = [];
              batches = sym (append-nil new.batches);
              count = done.synced;
              one = omega arith;
              first_digits = all;
              second_digits = refl;
              third_digits = none;
              history_is = sym (append-nil held.node.history);
              synced_is = k.recorded_is;
            };
      }

  -- what waited is written, and not synced
  pub kept_failed : (may_leave : D → List ℕ → Type 0) (is_clean : D → Bool) (held : Held) (j new : JournalValue D)
      (waiting : List ℕ) (capacity recorded synced : ℕ) (now : List ℕ) (wide : ℕ) →
      IsKept may_leave is_clean held j waiting capacity recorded synced → IsSame is_clean j new →
      j.broken ≡ false → IsTrue new.broken → Records is_clean j new waiting → now ≡ [] → j.room ≤ new.room →
      wide ≡ capacity → journals.Survives may_leave is_clean new →
      IsKept may_leave is_clean held new now wide recorded synced
  kept_failed may_leave is_clean held j new waiting capacity recorded synced now wide k same was broken done none
      room is
      survives =
      record {
        recorded_is = k.recorded_is;
        within = k.within;
        few = k.few;
        sizes = k.sizes;
        each = k.each;
        head = subst (IsHeadOf held.node.config held.node.me) (sym same.head) k.head;
        room = omega (arith, k.room);
        capacity_is = omega (arith, k.capacity_is);
        short = omega (arith, ap length none);
        digits = subst AreDigits (sym none) refl;
        settled = λ h. absurd (apart broken h);
        survives = survives;
        written = λ h.
            let clean : IsTrue (is_clean j.disk) = sym same.clean ∙ h in
            let w = k.written clean in
            let nothing : length w.last ≡ 0 =
            omega (arith, k.settled was, w.count, ap length w.batches, length-append w.settled w.last) in
            record {
              settled = w.settled;
              last = w.last ++ waiting ∷ [];
              first = w.first;
              second = w.second ++ w.third;
              third = [];
              batches = done.batches clean ∙ ap (λ (l : List (List ℕ)). l ++ waiting ∷ []) w.batches
                  ∙ append_assoc w.settled w.last (waiting ∷ []);
              count = done.synced clean ∙ w.count;
              one = omega (arith, nothing, length-append w.last (waiting ∷ []));
              first_digits = w.first_digits;
              second_digits = concat-append w.last (waiting ∷ [])
                  ∙ (λ i. w.second_digits i ++ append-nil waiting i)
                  ∙ (λ i. digits_of_events w.second ++ w.third_digits i)
                  ∙ sym (flat_map-append event_digits w.second w.third);
              third_digits = none;
              history_is = w.history_is ∙ ap (λ (l : List Event). w.first ++ l) (sym (append-nil (w.second ++
                  w.third)));
              synced_is = w.synced_is;
            };
      }
    where
      apart : {b : Bool} → b ≡ true → b ≡ false → ⊥
      apart t f = let e : true ≡ false = sym t ∙ f in absurd cc

  -- nothing has changed but the room
  kept_roomy : (may_leave : D → List ℕ → Type 0) (is_clean : D → Bool) (held : Held) (j : JournalValue D) (room : ℕ)
      (waiting : List ℕ) (capacity recorded synced : ℕ) (now : List ℕ) (wide : ℕ) →
      IsKept may_leave is_clean held j waiting capacity recorded synced → now ≡ waiting → j.room ≤ room →
      wide ≡ capacity →
      IsKept may_leave is_clean held (record j { room = room }) now wide recorded synced
  kept_roomy may_leave is_clean held j room waiting capacity recorded synced now wide k same more is =
      subst (λ (l : List ℕ). IsKept may_leave is_clean held (record j { room = room }) l wide recorded synced) (sym
      same)
      (record {
        recorded_is = k.recorded_is;
        within = k.within;
        few = k.few;
        sizes = k.sizes;
        each = k.each;
        head = k.head;
        room = omega (arith, k.room);
        capacity_is = omega (arith, k.capacity_is);
        short = k.short;
        digits = k.digits;
        settled = k.settled;
        survives = k.survives;
        written = λ h. let w = k.written h in record {
          settled = w.settled;
          last = w.last;
          first = w.first;
          second = w.second;
          third = w.third;
          batches = w.batches;
          count = w.count;
          one = w.one;
          first_digits = w.first_digits;
          second_digits = w.second_digits;
          third_digits = w.third_digits;
          history_is = w.history_is;
          synced_is = w.synced_is;
        };
      })

  -- what waited could not be written and synced
  pub kept_uncommitted : (may_leave : D → List ℕ → Type 0) (is_clean : D → Bool) (held : Held) (j new : JournalValue D)
      (waiting : List ℕ) (capacity recorded synced : ℕ) (now : List ℕ) (wide : ℕ) (fault : JournalFault) →
      IsKept may_leave is_clean held j waiting capacity recorded synced → IsSame is_clean j new →
      (fault ≡ Device) ⊎ (fault ≡ Full) → (IsTrue j.broken → (new ≡ j) × (now ≡ waiting)) →
      (j.broken ≡ false → fault ≡ Device → IsTrue new.broken × Records is_clean j new waiting × (now ≡ [])) →
      (fault ≡ Full → (new ≡ record j { room = new.room }) × (now ≡ waiting)) → j.room ≤ new.room → wide ≡ capacity →
      journals.Survives may_leave is_clean new → IsKept may_leave is_clean held new now wide recorded synced
  kept_uncommitted may_leave is_clean held j new waiting capacity recorded synced now wide fault k same which broken
      device full room is survives =
      ⊎_elim (λ d. at (j.broken) refl d) (λ f. let e = full f in stays e.0 e.1) which
    where
      stays : new ≡ record j { room = new.room } → now ≡ waiting →
          IsKept may_leave is_clean held new now wide recorded synced
      stays e l = subst (λ (x : JournalValue D). IsKept may_leave is_clean held x now wide recorded synced) (sym e)
          (kept_roomy may_leave is_clean held j new.room waiting capacity recorded synced now wide k l room is)

      at : (b : Bool) → j.broken ≡ b → fault ≡ Device → IsKept may_leave is_clean held new now wide recorded synced
      at true t d =
          let e = broken t in
          let same_room : new ≡ record j { room = new.room } = e.0 ∙ (λ i. record j {
            room = sym (ap (λ (x :
                JournalValue D). x.room) e.0) i;
          }) in
          stays same_room e.1
      at false f d =
          let e = device f d in
          kept_failed may_leave is_clean held j new waiting capacity recorded synced now wide k same f e.0 e.1 e.2
          room is
          survives

-- a call of the disk has failed since some moment, so since the first
pub failed_at_all : (old new : ℕ) (is_mixing : Bool) → Failed old new is_mixing → Failed 0 new is_mixing
failed_at_all old new is_mixing h = ⊎_elim (λ more. inl (omega arith)) (λ torn. inr torn) h
