-- A packet of the pool that is idle where it is sent to was taken there, and the other way round.
use Rattle.std.proofs.Common.{◌≡◌, ℕ, ◌+◌, ◌<◌, Bool, true, false, cond, List, ◌++◌, length, take}
use Rattle.std.proofs.Common.{Option, Some, None, Result, Ok, Err, refl, sym, ap, ◌∙◌, subst, length-append, arith}
use Rattle.std.specs.Prelude.{if◌then◌else◌, nat_le, is_some, slice_get, option_map, Contains}
use Rattle.std.specs.List.{filter_map}
use Rattle.std.proofs.lemmas.Bool.{and_from, eq-eqb}
use Rattle.std.proofs.lemmas.Bool.Decides.{nat_tests}
use Rattle.quorum_sizes.specs.Sizes.{Counts}
use Rattle.quorum_sizes.specs.NodeSets.{Nodes}
use Rattle.role_commands.specs.declared.command.Command.{Command}
use Rattle.link_frames.specs.frames.Packets.{PacketValue, message_of}
use Rattle.bracha_instance.proofs.Exported.{same_kind-refl}
use Rattle.bracha_instance.specs.Broadcast.{Take, command_of, is_vote_of, vote}
use Rattle.bracha_instance.specs.Taking.{effect_of}
use Rattle.bracha_instance.specs.declared.instance.Effect.{Effect}
use Rattle.bracha_instance.specs.declared.instance.Effect.TheVariants as effect
use Rattle.owner_streams.proofs.Exported.{stream_grows_lem}
use Rattle.owner_streams.specs.Places.{window, take_of, take_at, takes_at, stream, reach}
use Rattle.owner_streams.specs.Steps.{step_of, step_due, effect_due}
use Rattle.owner_streams.specs.declared.steps.StreamStep.{StreamStep}
use Rattle.owner_streams.specs.declared.steps.StreamFault.TheVariants.{Beyond}
use Rattle.role_node.specs.Answers.{outlook, take_outlook, unless_full, of_effect_due, is_routed}
use Rattle.role_node.specs.Answers.{answered, reply_to, answer_due, is_recorded, IsLegal}
use Rattle.role_node.specs.Configs.{ConfigValue}
use Rattle.role_node.specs.Histories.{packet_in, packets}
use Rattle.role_node.specs.declared.event.Event.{Event}
use Rattle.role_node.specs.declared.event.Event.TheVariants as event
use Rattle.role_node.specs.declared.event.Reply.{Reply}
use Rattle.role_node.specs.declared.faults.NodeFault.{NodeFault}
use Rattle.role_node.specs.declared.faults.NodeFault.TheVariants as fault
use Rattle.byz_world.specs.Runs.{Run, history_of, is_correct, IsClusterRun}
use Rattle.byz_world.specs.inside.Kept.{is_idle}
use Rattle.byz_world.proofs.Elements.{contained, number_of}
use Rattle.byz_world.proofs.Lists.{IsIn, IsFront, IsPicked, picked_from, is_picked}
use Rattle.byz_world.proofs.Lists.{found_there, front_taken, front_picked}
use Rattle.byz_world.proofs.Histories.{taken_by, taken_whole, own_take, packet_of_event, IsTakenIn, taken_in, routed}
use Rattle.byz_world.proofs.Votes.{IsFound, vote_found, said_by, said_stays, sent_before}
use Rattle.byz_world.specs.Pools.{WasSent}
use Rattle.byz_world.proofs.Pooled.{has_sent_is}

-- The outlook of a packet.

-- the packet is between nodes, and before the end of its window
pub record IsOpen (s : Counts) (me : ℕ) (taken : List PacketValue) (p : PacketValue) : Type 0 where
  pub routed : is_routed s me p ≡ true
  pub within : nat_le (reach s p.owner taken + window) p.place ≡ false

idle_early : (full : Bool) (r : Result Effect NodeFault) → is_idle (unless_full full r) ≡ true → r ≡ Ok effect.Idle
idle_early full (Ok effect.Idle) e = refl
idle_early true (Ok effect.Counted) e = absurd cc
idle_early false (Ok effect.Counted) e = absurd cc
idle_early full (Err f) e = absurd cc

early_idle : (full : Bool) (r : Result Effect NodeFault) → r ≡ Ok effect.Idle → is_idle (unless_full full r) ≡ true
early_idle full r e = ap (λ x. is_idle (unless_full full x)) e

idle_by : (routed beyond : Bool) (place end : ℕ) (step : StreamStep) →
    ◌≡◌ {A = Result Effect NodeFault}
    (if routed then of_effect_due (effect_due (if beyond then Err (Beyond place end) else Ok step))
    else Err fault.Misrouted)
    (Ok effect.Idle) → step.effect ≡ effect.Idle
idle_by false beyond place end step e = absurd cc
idle_by true true place end step e = absurd cc
idle_by true false place end step e = cc

take_idle : (config : ConfigValue) (me : ℕ) (history : List Event) (p : PacketValue) →
    take_outlook config.roles me history p ≡ Ok effect.Idle →
    effect_of (takes_at p.owner p.place (packets history)) (take_of p) ≡ effect.Idle
unfolding step_due
take_idle config me history p e =
    idle_by (is_routed config.roles.sizes me p) _ _ _ (step_of config.roles.sizes (packets history) p) e

-- the outlook of an open packet, room in the history apart
pub open_outlook : (config : ConfigValue) (me : ℕ) (history : List Event) (p : PacketValue) →
    IsOpen config.roles.sizes me (packets history) p →
    take_outlook config.roles me history p ≡ Ok (effect_of (takes_at p.owner p.place (packets history)) (take_of p))
unfolding step_due
open_outlook config me history p open' =
    let s : Counts = config.roles.sizes in
    let end : ℕ = reach s p.owner (packets history) + window in
    let step : StreamStep = step_of s (packets history) p in
    λ i. if open'.routed i then of_effect_due (effect_due (if open'.within i then Err (Beyond p.place end)
    else Ok step)) else Err fault.Misrouted

idle_take : (config : ConfigValue) (me : ℕ) (history : List Event) (p : PacketValue) →
    IsOpen config.roles.sizes me (packets history) p →
    effect_of (takes_at p.owner p.place (packets history)) (take_of p) ≡ effect.Idle →
    take_outlook config.roles me history p ≡ Ok effect.Idle
idle_take config me history p open' e = open_outlook config me history p open' ∙ ap Ok e

pub counted_early : (full : Bool) (r : Result Effect NodeFault) (reply : Reply)
    → is_recorded (answered (unless_full full r) reply) ≡ true →
    r ≡ Ok effect.Counted
counted_early full (Ok effect.Idle) reply e = absurd cc
counted_early true (Ok effect.Counted) reply e = absurd cc
counted_early false (Ok effect.Counted) reply e = refl
counted_early full (Err f) reply e = absurd cc

open_by : (routed beyond : Bool) (place end : ℕ) (step : StreamStep) →
    ◌≡◌ {A = Result Effect NodeFault}
    (if routed then of_effect_due (effect_due (if beyond then Err (Beyond place end) else Ok step))
    else Err fault.Misrouted)
    (Ok effect.Counted) → (routed ≡ true) × (beyond ≡ false)
open_by false beyond place end step e = absurd cc
open_by true true place end step e = absurd cc
open_by true false place end step e = (refl, refl)

-- a packet that was recorded was open then
was_open : (config : ConfigValue) (me : ℕ) (history : List Event) (p : PacketValue) →
    is_recorded (answer_due config me history (event.Take p)) ≡ true → IsOpen config.roles.sizes me (packets history) p
unfolding step_due
was_open config me history p recorded =
    let early : take_outlook config.roles me history p ≡ Ok effect.Counted =
    counted_early _ (take_outlook config.roles me history p)
    (reply_to config.roles me history (event.Take p)) recorded in
    let both = open_by (is_routed config.roles.sizes me p) _ _ _ (step_of config.roles.sizes (packets history) p)
    early in
    record { routed = both.0; within = both.1 }

-- .. and stays so: a stream grows
pub stays_open : (s : Counts) (me : ℕ) (before later : List PacketValue) (p : PacketValue) → IsOpen s me before p →
    IsOpen s me (before ++ later) p
stays_open s me before later p open' =
    let grows = stream_grows_lem s p.owner before later in
    let more : reach s p.owner (before ++ later) ≡ reach s p.owner before + length grows.0 =
    ap length (sym grows.1) ∙ length-append (stream s p.owner before) grows.0 in
    let then' : p.place < reach s p.owner before + window = below _ _ open'.within in
    record { routed = open'.routed; within = not_past _ _ (omega (arith, more, then')) }
  where
    below : (a b : ℕ) → nat_le a b ≡ false → b < a
    below a b e = grind (arith, nat_tests)

    not_past : (a b : ℕ) → b < a → nat_le a b ≡ false
    not_past a b h = grind (arith, nat_tests)

-- Votes.

voted_is : (o : Option Command) → cond (is_some o) effect.Idle effect.Counted ≡ effect.Idle
    → (c : Command) × (o ≡ Some c)
voted_is None e = absurd cc
voted_is (Some c) e = (c, refl)

votes_for : (takes : List Take) (t : Take) (k : ℕ) → slice_get takes k ≡ Some t → effect_of takes t ≡ effect.Idle
unfolding vote
votes_for takes t k at =
    let passes : is_vote_of t.kind t.from t ≡ true = and_from _ _ (same_kind-refl t.kind) (eq-eqb t.from t.from refl) in
    let found = found_there (is_vote_of t.kind t.from) takes t k at passes in
    ap (λ o. cond (is_some (option_map command_of o)) effect.Idle effect.Counted) found.1

-- What was taken is idle.

pub taken_is_open : (config : ConfigValue) (me : ℕ) (history : List Event) (p : PacketValue) (k : ℕ)
    → IsLegal config me history →
    slice_get history k ≡ Some (event.Take p) → IsOpen config.roles.sizes me (packets history) p
unfolding packets
taken_is_open config me history p k legal at =
    let front : IsFront (packets (take k history)) (packets history) =
    front_picked packet_in (take k history) history (front_taken k history) in
    let then' = was_open config me (take k history) p (legal k (event.Take p) at) in
    subst (λ ps. IsOpen config.roles.sizes me ps p) (sym front.1)
    (stays_open config.roles.sizes me (packets (take k history)) front.0 p then')

taken_votes : (history : List Event) (p : PacketValue) → IsIn (packets history) p →
    effect_of (takes_at p.owner p.place (packets history)) (take_of p) ≡ effect.Idle
unfolding takes_at
taken_votes history p found =
    let there = is_picked (take_at p.owner p.place) (packets history) p (take_of p) found.0 found.1 (own_take p) in
    votes_for (filter_map (take_at p.owner p.place) (packets history)) (take_of p) there.0 there.1

pub taken_is_idle : (config : ConfigValue) (me : ℕ) (history : List Event) (p : PacketValue)
    → IsLegal config me history →
    Contains (packets history) p → is_idle (outlook config me history (event.Take p)) ≡ true
unfolding packets
taken_is_idle config me history p legal c =
    let found : IsIn (packets history) p = number_of (packets history) p c in
    let from : IsPicked packet_in history p = picked_from packet_in history p found.0 found.1 in
    let e : from.0 ≡ event.Take p = packet_of_event from.0 p from.2 in
    let open' = taken_is_open config me history p from.1.0 legal (from.1.1 ∙ ap Some e) in
    early_idle _ _ (idle_take config me history p open' (taken_votes history p found))

-- What is idle was taken, where a correct node had sent it.

pub idle_is_taken : (config : ConfigValue) (liars : Nodes) (run : Run) (p : PacketValue)
    → IsClusterRun config liars run →
    WasSent config liars run p → is_idle (outlook config p.to (history_of p.to run) (event.Take p)) ≡ true →
    Contains (packets (history_of p.to run)) p
unfolding packets
idle_is_taken config liars run p is pooled idle =
    let s : Counts = config.roles.sizes in
    let me : ℕ = p.to in
    let history : List Event = history_of me run in
    let voted = voted_is _ (take_idle config me history p (idle_early _ _ idle)) in
    let found : IsFound p.kind p.from (taken_by run me p.owner p.place) voted.0 =
    vote_found p.kind p.from (taken_by run me p.owner p.place) voted.0 voted.1 in
    let t : Take = found.0 in
    let in_whole : IsIn (taken_by (take (length run) run) me p.owner p.place) t =
    subst (λ ts. IsIn ts t) (sym (taken_whole run me p.owner p.place)) found.1 in
    let from : IsTakenIn run (length run) me p.owner p.place t =
    taken_in (length run) run me p.owner p.place t in_whole in
    let q : PacketValue = from.packet in
    let honest : is_correct s liars t.from ≡ true = ap (is_correct s liars) found.3 ∙ pooled.from in
    let before : said_by s (take from.at run) t.from t.kind p.owner p.place ≡ Some t.command =
    sent_before config liars run (length run) me p.owner p.place t is from honest in
    let then' : said_by s run t.from t.kind p.owner p.place ≡ Some t.command =
    said_stays s from.at run t.from t.kind p.owner p.place t.command before in
    let own : said_by s run p.from p.kind p.owner p.place
    ≡ Some p.command = has_sent_is s run p.from (message_of p) pooled.sent in
    let one : Some t.command ≡ Some p.command = sym then'
    ∙ (λ i. said_by s run (found.3 i) (found.2 i) p.owner p.place) ∙ own in
    let command : t.command ≡ p.command = cc in
    let route = routed config me history from.number q (is.legal me) from.in_history in
    let message = from.message_is in
    let same : q ≡ p = λ i. record {
      from = (ap (λ (x : Take). x.from) message ∙ found.3) i;
      to = route.0 i;
      kind = (ap (λ (x : Take). x.kind) message ∙ found.2) i;
      owner = from.owner_is i;
      place = from.place_is i;
      command = (ap (λ (x : Take). x.command) message ∙ command) i;
    } in
    let there : IsIn (packets history) q =
    is_picked packet_in history (event.Take q) q from.number from.in_history refl in
    subst (Contains (packets history)) same (contained (packets history) there.0 q there.1)
