-- What an event does to a seat and to what is behind the lock.
use Rattle.std.proofs.Common.{◌≡◌, ℕ, ◌+◌, ◌<◌, ◌≤◌, Bool, true, false, cond, Option, Some, None, Result, Ok, Err}
use Rattle.std.proofs.Common.{List, [], ◌∷◌, ◌++◌, length, refl, ap, ◌∙◌, arith, length-append}
use Rattle.std.specs.Prelude.{IsTrue, ◌==◌, count_by, nat_le}
use Rattle.std.proofs.lemmas.Bool.Decides.{nat_tests}
use Rattle.std.proofs.lemmas.List.Sums.{sum_by-append}
use Rattle.link_frames.specs.frames.Packets.{PacketValue}
use Rattle.bracha_instance.specs.declared.instance.Effect.{Effect}
use Rattle.owner_streams.specs.Steps.{step_due, effect_due}
use Rattle.role_node.specs.Answers.{answer_due, is_recorded, is_routed, IsLegal, answered, unless_full, of_effect_due}
use Rattle.role_node.specs.Answers.{reply_to}
use Rattle.role_node.specs.Histories.{packets}
use Rattle.role_node.specs.Configs.{ConfigValue}
use Rattle.role_node.specs.Nodes.{due_at, with_event}
use Rattle.role_node.specs.declared.event.Event.{Event}
use Rattle.role_node.specs.declared.event.Event.TheVariants.{Issue, Take, Client}
use Rattle.role_node.specs.declared.event.Reply.{Reply}
use Rattle.role_node.specs.declared.faults.NodeFault.{NodeFault}
use Rattle.role_node.specs.declared.faults.NodeFault.TheVariants.{Misrouted}
use Rattle.node_lock.specs.Holds.{Held, Fits, end_of, held_after, seat_after}
use Rattle.node_lock.specs.Receipts.{outcome_from, is_recorded_outcome}
use Rattle.node_lock.specs.Seats.{Sitting}
use Rattle.node_lock.specs.Views.{held_after_hold}
use Rattle.node_lock.specs.declared.receipt.Call.{Call}
use Rattle.node_lock.specs.declared.receipt.Call.TheVariants.{Step, Ask}
use Rattle.kept_node.specs.inside.Fields.{event_in}
use Rattle.kept_node.specs.Events.{IsEvent, IsEventOf}

pub outcome_recorded : (due : Result Reply NodeFault) → is_recorded_outcome (outcome_from due) ≡ is_recorded due
outcome_recorded (Ok r) = refl
outcome_recorded (Err f) = refl

pub legal_none : (config : ConfigValue) (me : ℕ) → IsLegal config me []
legal_none config me k event e = absurd cc

counted_more : (number : ℕ) (seats : List ℕ) →
    count_by (λ n. n == number) (seats ++ number ∷ []) ≡ count_by (λ n. n == number) seats + 1
counted_more number seats =
    let itself : (number == number) ≡ true = grind (arith, nat_tests) in
    sum_by-append (λ n. cond (n == number) 1 0) seats (number ∷ [])
    ∙ (λ i. count_by (λ n. n == number) seats + (0 + cond (itself i) 1 0))

pub fits_after : (h : Held) (s : Sitting) (e : Event) → Fits h s → Fits (held_after h s e) (seat_after h s e)
fits_after h s e fits = go (is_recorded (due_at h.node e))
  where
    go : (b : Bool) → Fits
        (cond b (record { node = with_event h.node e; seats = h.seats ++ s.number ∷ [] }) h)
        (cond b (record { number = s.number; count = s.count + 1; seen = end_of h + 1 })
        (record { number = s.number; count = s.count; seen = end_of h }))
    go true = record {
      seen = omega (arith, length-append h.node.history (e ∷ []));
      count = counted_more s.number h.seats ∙ ap (λ n. n + 1) fits.count;
    }
    go false = record { seen = omega arith; count = fits.count }

-- a packet that is recorded is for the node, from a node and about a node's stream
taken_is_routed : (config : ConfigValue) (me : ℕ) (history : List Event) (p : PacketValue) →
    IsTrue (is_recorded (answer_due config me history (Take p))) → IsTrue (is_routed config.roles.sizes me p)
taken_is_routed config me history p h =
    go (is_routed config.roles.sizes me p) (of_effect_due (effect_due (step_due config.roles.sizes (packets history)
    p))) h
  where
    go : (b : Bool) (due : Result Effect NodeFault) → is_recorded (answered
        (unless_full (nat_le config.limit (length history)) (cond b due (Err Misrouted)))
        (reply_to config.roles me history (Take p))) ≡ true → IsTrue b
    go true due e = refl
    go false due e = absurd cc

pub recorded_is_of : (config : ConfigValue) (me : ℕ) (history : List Event) (e : Event) → IsEvent e →
    IsTrue (is_recorded (answer_due config me history e)) → IsEventOf config.roles.sizes me e
recorded_is_of config me history (Issue command) h recorded = h
recorded_is_of config me history (Take p) h recorded = (h, taken_is_routed config me history p recorded)
recorded_is_of config me history (Client act) h recorded = h

-- only an event that is recorded makes the history longer
pub held_put : (h : Held) (s : Sitting) (call : Option Call) → end_of h < end_of (held_after_hold h s call) →
    (e : Event) × (event_in call ≡ Some e) × IsTrue (is_recorded (due_at h.node e))
    × (held_after_hold h s call ≡ record { node = with_event h.node e; seats = h.seats ++ s.number ∷ [] })
held_put h s None less = absurd (omega arith)
held_put h s (Some (Ask question)) less = absurd (omega arith)
held_put h s (Some (Step e)) less = go (is_recorded (due_at h.node e)) refl less
  where
    go : (b : Bool) → is_recorded (due_at h.node e) ≡ b →
        length h.node.history < length (cond b (record {
          node = with_event h.node e;
          seats = h.seats ++ s.number ∷ [];
        }) h).node.history →
        (x : Event) × (Some e ≡ Some x) × IsTrue (is_recorded (due_at h.node x))
        × (cond (is_recorded (due_at h.node e)) (record {
          node = with_event h.node e;
          seats = h.seats ++ s.number ∷
              [];
        }) h
        ≡ record { node = with_event h.node x; seats = h.seats ++ s.number ∷ [] })
    go true t l = (
      e,
      refl,
      t,
      ap (λ (b : Bool). cond b (record { node = with_event h.node e; seats = h.seats ++ s.number ∷ [] }) h) t,
    )
    go false t l = absurd (omega arith)

pub held_same : (h : Held) (s : Sitting) (call : Option Call) → end_of (held_after_hold h s call) ≤ end_of h →
    held_after_hold h s call ≡ h
held_same h s None few = refl
held_same h s (Some (Ask question)) few = refl
held_same h s (Some (Step e)) few = go (is_recorded (due_at h.node e)) few
  where
    go : (b : Bool) →
        length (cond b (record { node = with_event h.node e; seats = h.seats ++ s.number ∷ [] }) h).node.history
        ≤ length h.node.history →
        cond b (record { node = with_event h.node e; seats = h.seats ++ s.number ∷ [] }) h ≡ h
    go true l = absurd (omega (arith, length-append h.node.history (e ∷ [])))
    go false l = refl
