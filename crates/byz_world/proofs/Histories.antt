-- The history of a node in a run: how it goes on, and where what the node took comes from.
use Rattle.std.proofs.Common.{◌≡◌, ℕ, ◌<◌, Bool, true, false, ◌==◌, ◌&&◌, if◌then◌else◌, List, [], ◌∷◌, take, slice_get}
use Rattle.std.proofs.Common.{Some, None, Result, Err, refl, sym, ap, ◌∙◌, subst, eqb-true, ltb-true, take_all, le_refl}
use Rattle.std.proofs.Common.{length}
use Rattle.std.specs.Prelude.{Contains}
use Rattle.std.specs.List.{filter_map}
use Rattle.std.proofs.lemmas.Bool.{and_parts, and_from, eq-eqb}
use Rattle.std.proofs.lemmas.Option.{cond_some}
use Rattle.link_frames.specs.frames.Packets.{PacketValue}
use Rattle.bracha_instance.specs.Broadcast.{Take}
use Rattle.bracha_instance.specs.declared.instance.Effect.{Effect}
use Rattle.owner_streams.specs.Places.{take_of, take_at, takes_at}
use Rattle.role_node.specs.Configs.{ConfigValue}
use Rattle.role_node.specs.Histories.{packet_in, packets}
use Rattle.role_node.specs.Answers.{is_routed, unless_full, answered, is_recorded, IsLegal}
use Rattle.role_node.specs.declared.event.Event.{Event}
use Rattle.role_node.specs.declared.event.Event.TheVariants as event
use Rattle.role_node.specs.declared.event.Reply.{Reply}
use Rattle.role_node.specs.declared.faults.NodeFault.{NodeFault}
use Rattle.role_node.specs.declared.faults.NodeFault.TheVariants as fault
use Rattle.byz_world.specs.Runs.{Run, event_at, history_of}
use Rattle.byz_world.proofs.Elements.{number_of}
use Rattle.byz_world.proofs.Lists.{IsIn, IsPicked, picked_from, IsFront, in_front}
use Rattle.byz_world.proofs.Lists.{front_taken, front_picked, slice_get-taken}

-- the messages that a node took at a place of an owner's stream
abbrev pub taken_by : Run → ℕ → ℕ → ℕ → List Take
taken_by run node owner place = takes_at owner place (packets (history_of node run))

-- a packet is taken at its own place
pub own_take : (p : PacketValue) → take_at p.owner p.place p ≡ Some (take_of p)
own_take p =
    ap (λ b. if b then Some (take_of p)
    else None) (and_from _ _ (eq-eqb p.owner p.owner refl) (eq-eqb p.place p.place refl))

-- Fronts of a run.

pub history_front : (t : ℕ) (run : Run) (node : ℕ) → IsFront (history_of node (take t run)) (history_of node run)
unfolding history_of
history_front t run node = front_picked (event_at node) (take t run) run (front_taken t run)

pub taken_front : (t : ℕ) (run : Run) (node owner place : ℕ)
    → IsFront (taken_by (take t run) node owner place) (taken_by run node owner place)
unfolding packets takes_at
taken_front t run node owner place =
    front_picked (take_at owner place) _ _ (front_picked packet_in _ _ (history_front t run node))

-- the whole run is its first events, as many as it has
pub taken_whole : (run : Run) (node owner place : ℕ)
    → taken_by (take (length run) run) node owner place ≡ taken_by run node owner place
taken_whole run node owner place = ap (λ x. taken_by x node owner place) (take_all (length run) run (le_refl _))

-- where a message comes from that the node took in the first m events of the run: the packet, and where the run and the
-- node's history have it
pub record IsTakenIn (run : Run) (m node owner place : ℕ) (t : Take) : Type 0 where
  pub packet : PacketValue
  pub at : ℕ
  pub before : at < m
  pub in_run : slice_get run at ≡ Some (node, event.Take packet)
  pub number : ℕ
  pub in_history : slice_get (history_of node run) number ≡ Some (event.Take packet)
  pub owner_is : packet.owner ≡ owner
  pub place_is : packet.place ≡ place
  pub message_is : take_of packet ≡ t

pub packet_of_event : (e : Event) (p : PacketValue) → packet_in e ≡ Some p → e ≡ event.Take p
packet_of_event (event.Issue c) p is = absurd cc
packet_of_event (event.Take q) p is = cc
packet_of_event (event.Client act) p is = absurd cc

pair_is : (pair : ℕ × Event) (node : ℕ) (e : Event) → event_at node pair ≡ Some e → pair ≡ (node, e)
pair_is pair node e is =
    let parts = cond_some (pair.0 == node) pair.1 e is in
    λ i. (eqb-true pair.0 node parts.0 i, parts.1 i)

pub pair_in : (m : ℕ) (run : Run) (node : ℕ) (e : Event) → IsIn (history_of node (take m run)) e →
    (at : ℕ) × (at < m) × (slice_get run at ≡ Some (node, e))
unfolding history_of
pair_in m run node e found =
    let from : IsPicked (event_at node) (take m run) e = picked_from (event_at node) (take m run) e found.0 found.1 in
    let early = slice_get-taken m run from.1.0 from.0 from.1.1 in
    (from.1.0, early.0, early.1 ∙ ap Some (pair_is from.0 node e from.2))

pub taken_in : (m : ℕ) (run : Run) (node owner place : ℕ) (t : Take) → IsIn (taken_by (take m run) node owner place) t
    → IsTakenIn run m node owner place t
unfolding takes_at packets
taken_in m run node owner place t found =
    let from_packet : IsPicked (take_at owner place) (filter_map packet_in (history_of node (take m run))) t =
    picked_from (take_at owner place) _ t found.0 found.1 in
    let p = from_packet.0 in
    let from_event : IsPicked packet_in (history_of node (take m run)) p =
    picked_from packet_in _ p from_packet.1.0 from_packet.1.1 in
    let e : from_event.0 ≡ event.Take p = packet_of_event from_event.0 p from_event.2 in
    let from_run = pair_in m run node from_event.0 from_event.1 in
    let in_history = in_front _ _ (event.Take p) (history_front m run node) (
      from_event.1.0,
      from_event.1.1
          ∙ ap Some e,
    ) in
    let at_place = cond_some (p.owner == owner && p.place == place) (take_of p) t from_packet.2 in
    let both = and_parts _ _ at_place.0 in
    record {
      packet = p;
      at = from_run.0;
      before = from_run.1;
      in_run = from_run.2 ∙ ap (λ x. Some (node, x)) e;
      number = in_history.0;
      in_history = in_history.1;
      owner_is = eqb-true p.owner owner both.0;
      place_is = eqb-true p.place place both.1;
      message_is = at_place.1;
    }

one_of : (takes : List Take) → (takes ≡ [] → ⊥) → (t : Take) × IsIn takes t
one_of [] some = absurd (some refl)
one_of (t ∷ takes) some = (t, (0, refl))

-- where the node took anything, a packet has it
pub some_taken : (run : Run) (node owner place : ℕ) → (taken_by run node owner place ≡ [] → ⊥) →
    (t : Take) × IsTakenIn run (length run) node owner place t
some_taken run node owner place some =
    let one = one_of (taken_by run node owner place) some in
    let in_whole : IsIn (taken_by (take (length run) run) node owner place) one.0 =
    subst (λ ts. IsIn ts one.0) (sym (taken_whole run node owner place)) one.1 in
    (one.0, taken_in (length run) run node owner place one.0 in_whole)

-- where the run has a packet that a node took
pub taken_event : (run : Run) (node : ℕ) (p : PacketValue) → Contains (packets (history_of node run)) p →
    IsIn (history_of node run) (event.Take p)
unfolding packets
taken_event run node p taken =
    let found = number_of (packets (history_of node run)) p taken in
    let from : IsPicked packet_in (history_of node run) p =
    picked_from packet_in (history_of node run) p found.0 found.1 in
    (from.1.0, from.1.1 ∙ ap Some (packet_of_event from.0 p from.2))

pub taken_in_run : (run : Run) (node : ℕ) (p : PacketValue) → Contains (packets (history_of node run)) p →
    (at : ℕ) × (at < length run) × (slice_get run at ≡ Some (node, event.Take p))
taken_in_run run node p taken =
    let there = taken_event run node p taken in
    let whole : take (length run) run ≡ run = take_all (length run) run (le_refl _) in
    pair_in (length run) run node (event.Take p) (
      there.0,
      ap (λ r. slice_get (history_of node r) there.0) whole
          ∙ there.1,
    )

-- A packet that was recorded is between nodes.

recorded_if : (routed full : Bool) (x : Result Effect NodeFault) (r : Reply) →
    is_recorded (answered (unless_full full (if routed then x else Err fault.Misrouted)) r) ≡ true → routed ≡ true
recorded_if true full x r is = refl
recorded_if false full x r is = absurd cc

pub routed : (config : ConfigValue) (node : ℕ) (history : List Event) (k : ℕ) (p : PacketValue)
    → IsLegal config node history
    → slice_get history k ≡ Some (event.Take p) → (p.to ≡ node) × (p.from < config.roles.sizes.nodes)
    × (p.owner < config.roles.sizes.nodes)
routed config node history k p legal there =
    let is : is_routed config.roles.sizes node p ≡ true =
    recorded_if (is_routed config.roles.sizes node p) _ _ _ (legal k (event.Take p) there) in
    let parts = and_parts _ _ is in
    let ends = and_parts _ _ parts.0 in (
      eqb-true p.to node ends.0,
      ltb-true p.from config.roles.sizes.nodes ends.1,
      ltb-true p.owner config.roles.sizes.nodes parts.1,
    )
