-- Where nothing about an owner's first places is wanted, these are complete.
use Rattle.std.proofs.Common.{◌≡◌, ℕ, ◌+◌, ◌<◌, ◌≤◌, ◌⊎◌, inl, inr, ⊎_elim, Bool, true, false, ◌==◌, ◌&&◌}
use Rattle.std.proofs.Common.{List, ◌++◌, Some, Result, Ok, Err, refl, sym, ap}
use Rattle.std.proofs.Common.{◌∙◌, subst, arith, le_refl}
use Rattle.std.specs.Prelude.{if◌then◌else◌, nat_lt, slice_get, Contains}
use Rattle.std.proofs.lemmas.Bool.{and_from, and_parts, lt-ltb, ltb-true, eq-eqb}
use Rattle.std.proofs.Common.{eqb-true}
use Rattle.std.proofs.lemmas.List.Elements.{filter_map-append}
use Rattle.quorum_sizes.specs.Sizes.{Counts}
use Rattle.quorum_sizes.specs.NodeSets.{Nodes}
use Rattle.link_frames.specs.frames.Packets.{PacketValue, message_of}
use Rattle.bracha_instance.specs.Taking.{effect_of}
use Rattle.bracha_instance.specs.declared.instance.Effect.{Effect}
use Rattle.bracha_instance.specs.declared.instance.Effect.TheVariants as effect
use Rattle.owner_streams.specs.Places.{window, take_of, takes_at}
use Rattle.owner_streams.specs.Steps.{step_of, step_due, effect_due}
use Rattle.owner_streams.specs.declared.steps.StreamStep.{StreamStep}
use Rattle.owner_streams.specs.declared.steps.StreamFault.TheVariants.{Beyond}
use Rattle.role_node.specs.Answers.{take_outlook, unless_full, of_effect_due, is_routed}
use Rattle.role_node.specs.Configs.{ConfigValue}
use Rattle.role_node.specs.Histories.{packet_in, packets}
use Rattle.role_node.specs.declared.event.Event.{Event}
use Rattle.role_node.specs.declared.faults.NodeFault.{NodeFault}
use Rattle.role_node.specs.declared.faults.NodeFault.TheVariants as fault
use Rattle.byz_world.specs.inside.Kept.{is_idle}
use Rattle.byz_world.specs.Runs.{reach_of}
use Rattle.byz_world.specs.Progress.{IsWanted, IsQuiet, QuietIsComplete}
use Rattle.byz_world.specs.Pools.{pool, WasSent}
use Rattle.byz_world.specs.Runs.{Run, history_of, is_correct, IsClusterRun}
use Rattle.byz_world.proofs.Complete.{EndsAreTaken, complete}
use Rattle.byz_world.proofs.Elements.{number_of}
use Rattle.byz_world.proofs.Idle.{IsOpen, open_outlook, stays_open, idle_is_taken}
use Rattle.byz_world.proofs.Pooled.{pooled_is_sent, sent_is_pooled, has_sent_stays}
use Rattle.byz_world.proofs.Elements.{one_passes}
use Rattle.byz_world.proofs.Progress.{effect_cases, pooled_is_open}
use Rattle.byz_world.proofs.Pushing.{history_of-append}

early_idle : (full : Bool) (r : Result Effect NodeFault) → r ≡ Ok effect.Idle → is_idle (unless_full full r) ≡ true
early_idle full r e = ap (λ x. is_idle (unless_full full x)) e

-- A packet of the pool that is open where it is sent to was taken there, or is wanted.
pub taken_or_wanted : (config : ConfigValue) (liars : Nodes) (run : Run) (p : PacketValue) →
    IsClusterRun config liars run → Contains (pool config run) p → is_correct config.roles.sizes liars p.to ≡ true →
    p.place < reach_of config run p.to p.owner + window →
    Contains (packets (history_of p.to run)) p ⊎ IsWanted config liars run p
taken_or_wanted config liars run p cluster pooled correct within =
    let was = pooled_is_sent config liars run p cluster pooled in
    let e : Effect = effect_of (takes_at p.owner p.place (packets (history_of p.to run))) (take_of p) in
    let is : take_outlook config.roles p.to (history_of p.to run) p ≡ Ok e =
    open_outlook config p.to (history_of p.to run) p (pooled_is_open config liars run cluster p pooled within) in
    ⊎_elim
    (λ (idle : e ≡ effect.Idle).
    inl (idle_is_taken config liars run p cluster was (early_idle _ _ (is ∙ ap Ok idle))))
    (λ (counted : e ≡ effect.Counted). inr (record { sent = was; to = correct; counts = is ∙ ap Ok counted }))
    (effect_cases e)

module _ (config : ConfigValue) (liars : Nodes) (run : Run) (owner places : ℕ) (cluster : IsClusterRun config liars run)
    (quiet : IsQuiet config liars run owner places) where
  abbrev s : Counts
  s = config.roles.sizes

  abbrev IsHonest : ℕ → Type 0
  IsHonest name = is_correct s liars name ≡ true

  pub within_taken : (p : PacketValue) → Contains (pool config run) p → IsHonest p.to → p.owner ≡ owner →
      p.place < places → p.place < reach_of config run p.to p.owner + window →
      Contains (packets (history_of p.to run)) p
  within_taken p pooled correct own early within =
      ⊎_elim
      (λ (taken : Contains (packets (history_of p.to run)) p). taken)
      (λ (wanted : IsWanted config liars run p). absurd (quiet p wanted own early))
      (taken_or_wanted config liars run p cluster pooled correct within)

  pub ends_taken : EndsAreTaken config liars run owner places
  ends_taken node correct early p pooled to own there =
      let C : ℕ → Type 0 = λ name. IsHonest name in
      let P : ℕ → Type 0 = λ name. Contains (packets (history_of name run)) p in
      let R : ℕ → ℕ → Type 0 = λ name o. reach_of config run node owner ≤ reach_of config run name o in
      let far : R p.to p.owner = subst (λ name. R name p.owner) (sym to) (subst (R node) (sym own) (le_refl _)) in
      subst P to
      (within_taken p pooled (subst C (sym to) correct) own (omega (arith, early, there)) (omega (arith, far, there)))

pub quiet_is_complete : QuietIsComplete
quiet_is_complete config liars run owner places cluster quiet =
    complete config liars run owner places cluster (ends_taken config liars run owner places cluster quiet)

-- A packet that is wanted, or none.

abbrev counts_in : Result Effect NodeFault → Bool
counts_in (Ok effect.Counted) = true
counts_in r = false

counts_is : (r : Result Effect NodeFault) → counts_in r ≡ true → r ≡ Ok effect.Counted
counts_is (Ok effect.Counted) e = refl
counts_is (Ok effect.Idle) e = absurd cc
counts_is (Err f) e = absurd cc

-- of those that pass a test that computes
pub wanted_of : (config : ConfigValue) (liars : Nodes) (run : Run) (owner places : ℕ) (passes : PacketValue → Bool) →
    IsClusterRun config liars run →
    ((p : PacketValue) → IsWanted config liars run p → p.owner ≡ owner → p.place < places → passes p ≡ true → ⊥)
    ⊎ ((p : PacketValue) × IsWanted config liars run p × (p.owner ≡ owner) × (p.place < places) × (passes p ≡ true))
wanted_of config liars run owner places passes cluster =
    let s : Counts = config.roles.sizes in
    let test : PacketValue → Bool =
    λ p. ((is_correct s liars p.to && passes p) && ((p.owner == owner) && nat_lt p.place places))
    && counts_in (take_outlook config.roles p.to (history_of p.to run) p) in
    ⊎_elim
    (λ (none : (k : ℕ) (p : PacketValue) → slice_get (pool config run) k ≡ Some p → test p ≡ false).
    inl (λ p wanted own early is.
    let was = wanted.sent in
    let at = number_of (pool config run) p
    (sent_is_pooled config liars run p.from p.to (message_of p) cluster was.sent was.to) in
    let there : test p ≡ true =
    and_from _ _ (and_from _ _ (and_from _ _ wanted.to is)
    (and_from _ _ (eq-eqb p.owner owner own) (lt-ltb p.place places early))) (ap counts_in wanted.counts) in
    let clash : true ≡ false = sym there ∙ none at.0 p at.1 in
    absurd cc))
    (λ (one : (p : PacketValue) × Contains (pool config run) p × (test p ≡ true)).
    let both = and_parts _ _ one.2 in
    let first = and_parts _ _ both.0 in
    let to = and_parts _ _ first.0 in
    let there = and_parts _ _ first.1 in
    inr (
      one.0,
      record {
        sent = pooled_is_sent config liars run one.0 cluster one.1;
        to = to.0;
        counts = counts_is _ both.1;
      },
      eqb-true one.0.owner owner there.0,
      ltb-true one.0.place places there.1,
      to.1,
    ))
    (one_passes test (pool config run))

pub quiet_or_wanted : (config : ConfigValue) (liars : Nodes) (run : Run) (owner places : ℕ) →
    IsClusterRun config liars run → IsQuiet config liars run owner places
    ⊎ ((p : PacketValue) × IsWanted config liars run p × (p.owner ≡ owner) × (p.place < places))
quiet_or_wanted config liars run owner places cluster =
    ⊎_elim
    (λ (none : (p : PacketValue) → IsWanted config liars run p → p.owner ≡ owner → p.place < places →
    true ≡ true → ⊥).
    inl (λ p wanted own early. none p wanted own early refl))
    (λ (one : (p : PacketValue) × IsWanted config liars run p × (p.owner ≡ owner) × (p.place < places)
    × (true ≡ true)).
    inr (one.0, one.1, one.2, one.3))
    (wanted_of config liars run owner places (λ _. true) cluster)

-- What is wanted stays so until it is taken.

open_by : (routed beyond : Bool) (place end : ℕ) (step : StreamStep) →
    ◌≡◌ {A = Result Effect NodeFault}
    (if routed then of_effect_due (effect_due (if beyond then Err (Beyond place end) else Ok step))
    else Err fault.Misrouted)
    (Ok effect.Counted) → (routed ≡ true) × (beyond ≡ false)
open_by false beyond place end step e = absurd cc
open_by true true place end step e = absurd cc
open_by true false place end step e = (refl, refl)

wanted_is_open : (config : ConfigValue) (me : ℕ) (history : List Event) (p : PacketValue) →
    take_outlook config.roles me history p ≡ Ok effect.Counted → IsOpen config.roles.sizes me (packets history) p
unfolding step_due
wanted_is_open config me history p counts =
    let both = open_by (is_routed config.roles.sizes me p) _ _ _ (step_of config.roles.sizes (packets history) p)
    counts in
    record { routed = both.0; within = both.1 }

pub packets-append : (before later : List Event) → packets (before ++ later) ≡ packets before ++ packets later
unfolding packets
packets-append before later = filter_map-append packet_in before later

pub wanted_stays : (config : ConfigValue) (liars : Nodes) (run more : Run) (p : PacketValue) →
    IsClusterRun config liars (run ++ more) → IsWanted config liars run p →
    IsWanted config liars (run ++ more) p ⊎ Contains (packets (history_of p.to (run ++ more))) p
wanted_stays config liars run more p cluster wanted =
    let s : Counts = config.roles.sizes in
    let was : WasSent config liars (run ++ more) p = record {
      from = wanted.sent.from;
      to = wanted.sent.to;
      sent = has_sent_stays s run more p.from (message_of p) wanted.sent.sent;
    } in
    let long : packets (history_of p.to (run ++ more))
    ≡ packets (history_of p.to run) ++ packets (history_of p.to more) =
    ap packets (history_of-append p.to run more) ∙ packets-append (history_of p.to run) (history_of p.to more) in
    let open' : IsOpen s p.to (packets (history_of p.to (run ++ more))) p =
    subst (λ ps. IsOpen s p.to ps p) (sym long)
    (stays_open s p.to (packets (history_of p.to run)) (packets (history_of p.to more)) p
    (wanted_is_open config p.to (history_of p.to run) p wanted.counts)) in
    let e : Effect = effect_of (takes_at p.owner p.place (packets (history_of p.to (run ++ more)))) (take_of p) in
    let is : take_outlook config.roles p.to (history_of p.to (run ++ more)) p ≡ Ok e =
    open_outlook config p.to (history_of p.to (run ++ more)) p open' in
    ⊎_elim
    (λ (idle : e ≡ effect.Idle).
    inr (idle_is_taken config liars (run ++ more) p cluster was (early_idle _ _ (is ∙ ap Ok idle))))
    (λ (counted : e ≡ effect.Counted).
    inl (record { sent = was; to = wanted.to; counts = is ∙ ap Ok counted }))
    (effect_cases e)
