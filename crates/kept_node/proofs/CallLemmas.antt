-- What the calls of a kept node make of its fields.
use Rattle.std.proofs.Common.{◌≡◌, ℕ, ◌+◌, ◌-◌, ◌<◌, ◌≤◌, Bool, false, Option, Some, List, [], ◌∷◌, ◌++◌}
use Rattle.std.proofs.Common.{length, ap, sym, ◌∙◌, subst, arith, inl, inr}
use Rattle.std.proofs.Common.{Result, Err, length-append}
use Rattle.std.specs.Prelude.{IfSome, IfErr, OnErr, nat_le}
use Rattle.std.proofs.lemmas.Bool.{cases_lt}
use Rattle.std.proofs.lemmas.Bool.Decides.{nat_tests}
use Rattle.batch_journal.specs.Journals.{JournalValue}
use Rattle.role_node.specs.declared.event.Event.{Event}
use Rattle.node_lock.specs.Holds.{Held, end_of}
use Rattle.node_lock.specs.Seats.{Sitting}
use Rattle.node_lock.specs.Views.{held_after_hold}
use Rattle.node_lock.specs.declared.receipt.Call.{Call}
use Rattle.kept_node.specs.Events.{IsEvent, event_digits}
use Rattle.kept_node.specs.inside.Fields.{IsKept, event_in}
use Rattle.kept_node.proofs.HeldLemmas.{held_put, held_same, recorded_is_of}
use Rattle.kept_node.proofs.KeptLemmas.{kept_put}

pub at_some : {A : Type 0} (o : Option A) (x : A) (P : A → Type 0) → o ≡ Some x → IfSome o P → P x
at_some {A} o x P e h = subst (λ (q : Option A). IfSome q P) e h

pub at_err : {T E : Type 0} (r : Result T E) (x : E) (P : E → Type 0) → r ≡ Err x → IfErr r P → P x
at_err {T} {E} r x P e h = subst (λ (q : Result T E). IfErr q P) e h

pub on_err : {T E : Type 0} (r : Result T E) (x : E) (P : Type 0) → r ≡ Err x → OnErr r P → P
on_err {T} {E} r x P e h = subst (λ (q : Result T E). OnErr q P) e h

room_left : (waits : ℕ) → nat_le 1024 waits ≡ false → waits < 1024
room_left waits h = grind (arith, nat_tests)

module _ {D : Type 0} where
  -- after a hold
  pub kept_held : (may_leave : D → List ℕ → Type 0) (is_clean : D → Bool) (h new : Held) (s : Sitting)
      (call : Option Call) (event : Option Event) (j : JournalValue D) (waiting now : List ℕ)
      (capacity wide recorded at synced : ℕ) → IsKept may_leave is_clean h j waiting capacity recorded synced →
      nat_le 1024 (end_of h - synced) ≡ false → new ≡ held_after_hold h s call → event ≡ event_in call →
      at ≡ end_of new → (recorded < at → IfSome event (λ e. now ≡ waiting ++ event_digits e)) →
      (recorded < at → IfSome event IsEvent) → (at ≤ recorded → now ≡ waiting) → length now ≤ length waiting + 19 →
      capacity ≤ wide → IsKept may_leave is_clean new j now wide at synced
  kept_held may_leave is_clean h new s call event j waiting now capacity wide recorded at synced k room held called is
      digits fits same long more =
      let longer : end_of new ≡ end_of (held_after_hold h s call) = ap end_of held in
      elim (cases_lt recorded at) [
        | inl less ↦
            let put = held_put h s call (omega (arith, longer, is, k.recorded_is)) in
            let some : event ≡ Some put.0 = called ∙ put.1 in
            let fit = at_some event put.0 IsEvent some (fits less) in
            let count : at ≡ recorded + 1 =
            omega (arith, is, k.recorded_is, ap end_of (held ∙ put.3), grown h.node.history put.0) in
            subst (λ (x : Held). IsKept may_leave is_clean x j now wide at synced) (sym (held ∙ put.3))
            (kept_put may_leave is_clean h j waiting capacity recorded synced put.0 (h.seats ++ s.number ∷ []) now
            wide at
            k (omega (arith, room_left (end_of h - synced) room, k.recorded_is, k.within))
            (recorded_is_of h.node.config h.node.me h.node.history put.0 fit put.2)
            (at_some event put.0 (λ e. now ≡ waiting ++ event_digits e) some (digits less)) long more count)
        | inr few ↦
            let stays : new ≡ h = held ∙ held_same h s call (omega (arith, longer, is, k.recorded_is)) in
            let count : at ≡ recorded = omega (arith, is, k.recorded_is, ap end_of stays) in
            stayed stays count (same few)
      ]
    where
      grown : (history : List Event) (e : Event) → length (history ++ e ∷ []) ≡ length history + 1
      grown history e = length-append history (e ∷ [])

      stayed : new ≡ h → at ≡ recorded → now ≡ waiting → IsKept may_leave is_clean new j now wide at synced
      stayed stays count was =
          subst (λ (x : Held). IsKept may_leave is_clean x j now wide at synced) (sym stays)
          (subst (λ (n : ℕ). IsKept may_leave is_clean h j now wide n synced) (sym count)
          (subst (λ (l : List ℕ). IsKept may_leave is_clean h j l wide recorded synced) (sym was)
          (record {
            recorded_is = k.recorded_is;
            within = k.within;
            few = k.few;
            sizes = k.sizes;
            each = k.each;
            head = k.head;
            room = k.room;
            capacity_is = omega (arith, k.capacity_is);
            short = k.short;
            digits = k.digits;
            settled = k.settled;
            survives = k.survives;
            written = k.written;
          })))
