-- What the fields of a world tell: its nodes, its packets, what was sent, and how far streams agree.
use Rattle.std.proofs.Common.{◌≡◌, ℕ, ◌*◌, ◌<◌, ◌≤◌, Bool, true, false, ◌&&◌, List, []}
use Rattle.std.proofs.Common.{◌∷◌, length, min, Option, Some, None, refl, sym, ap, ◌∙◌, arith}
use Rattle.std.specs.Prelude.{if◌then◌else◌, nat_lt, not, slice_get, option_map, ◌/◌, ◌%◌}
use Rattle.std.proofs.lemmas.Bool.{and_parts}
use Rattle.std.proofs.Math.Nat.{le-mul_of_pos_right}
use Rattle.owner_streams.proofs.Exported.{echoed-none, readied-none}
use Rattle.std.proofs.lemmas.Bool.Decides.{nat_tests}
use Rattle.quorum_sizes.specs.Sizes.{Counts}
use Rattle.quorum_sizes.specs.NodeSets.{Nodes}
use Rattle.role_commands.specs.declared.command.Command.{Command}
use Rattle.link_frames.specs.declared.frames.kind.Kind.{Kind}
use Rattle.link_frames.specs.declared.frames.kind.Kind.TheVariants.{Send, Echo, Ready}
use Rattle.link_frames.specs.declared.frames.packet.Message.{Message}
use Rattle.link_frames.specs.frames.Packets.{PacketValue, packet_of, packet_due, message_of}
use Rattle.bracha_instance.specs.Broadcast.{Take, echoed, readied}
use Rattle.role_node.specs.Configs.{ConfigValue}
use Rattle.role_node.specs.Nodes.{NodeValue}
use Rattle.role_node.specs.Access.{sent_at}
use Rattle.role_node.specs.Access.{stream_at, reach_at, verdict_at}
use Rattle.role_sessions.specs.declared.verdict.Verdict.{Verdict}
use Rattle.bracha_instance.specs.Broadcast.{is_for}
use Rattle.byz_world.specs.Steps.{is_forged}
use Rattle.byz_world.specs.Agreement.{common_length, agree_due}
use Rattle.byz_world.specs.Checks.{decision_due}
use Rattle.byz_world.specs.Runs.{reach_of}
use Rattle.byz_world.specs.Worlds.{IsClusterRunOf}
use Rattle.byz_world.proofs.Safety.{consistency}
use Rattle.byz_world.specs.Runs.{Run, history_of, is_correct, of_kind, has_sent, IsClusterRun}
use Rattle.byz_world.specs.Pools.{Sent, messages, pool}
use Rattle.byz_world.specs.Worlds.{WorldValue, node_in, node_due, is_correct_in}
use Rattle.byz_world.proofs.Elements.{contained}
use Rattle.byz_world.proofs.Histories.{taken_by, taken_whole, IsTakenIn, taken_in, routed}
use Rattle.byz_world.proofs.Pooled.{has_sent_is}
use Rattle.byz_world.proofs.Numbering.{pool_at}
use Rattle.byz_world.proofs.Sound.{send_is_own, message_is_due}

-- Nodes.

pub record IsNodeIn (w : WorldValue) (name : ℕ) (node : NodeValue) : Type 0 where
  pub correct : is_correct_in w name ≡ true
  pub is : node ≡ node_in w name

node_by : (b : Bool) (x y : NodeValue) → ◌≡◌ {A = Option NodeValue} (if b then Some x else None) (Some y)
    → (b ≡ true) × (y ≡ x)
node_by true x y e = (refl, cc)
node_by false x y e = absurd cc

pub node_is : (w : WorldValue) (name : ℕ) (node : NodeValue) → node_due w name ≡ Some node → IsNodeIn w name node
node_is w name node e = let both = node_by (is_correct_in w name) (node_in w name) node e in record {
  correct =
      both.0;
  is = both.1;
}

-- Packets.

-- packet k of the pool is due, of message k / n to node k mod n
pub number_is_due : (config : ConfigValue) (liars : Nodes) (run : Run) (k : ℕ) (sent : Sent) →
    IsClusterRun config liars run → 0 < config.roles.sizes.nodes →
    slice_get (messages config run) (k / config.roles.sizes.nodes) ≡ Some sent →
    packet_due sent.0 (k % config.roles.sizes.nodes) sent.1 ≡ slice_get (pool config run) k
number_is_due config liars run k sent is nodes at =
    let n : ℕ = config.roles.sizes.nodes in
    message_is_due config liars run is sent (k % n) (contained (messages config run) (k / n) sent at)
    ∙ sym (pool_at config run k nodes ∙ ap (option_map (λ (s : Sent). packet_of s.0 (k % n) s.1)) at)

pub no_number : (config : ConfigValue) (run : Run) (k : ℕ) → 0 < config.roles.sizes.nodes →
    slice_get (messages config run) (k / config.roles.sizes.nodes) ≡ None → slice_get (pool config run) k ≡ None
no_number config run k nodes at =
    pool_at config run k nodes ∙ ap (option_map (λ (s : Sent). packet_of s.0 (k % config.roles.sizes.nodes) s.1)) at

-- What was sent.

first_in : (takes : List Take) → ((t : Take) (k : ℕ) → slice_get takes k ≡ Some t → ⊥) → takes ≡ []
first_in [] none = refl
first_in (t ∷ takes) none = absurd (none t 0 refl)

-- nothing is taken of an owner that is no node
none_taken : (config : ConfigValue) (liars : Nodes) (run : Run) (node owner place : ℕ) → IsClusterRun config liars run →
    config.roles.sizes.nodes ≤ owner → taken_by run node owner place ≡ []
none_taken config liars run node owner place is past =
    first_in (taken_by run node owner place)
    (λ t k at.
    let from : IsTakenIn run (length run) node owner place t =
    taken_in (length run) run node owner place t (
      k,
      ap (λ ts. slice_get ts k) (taken_whole run node owner place)
          ∙ at,
    ) in
    let route = routed config node (history_of node run) from.number from.packet (is.legal node) from.in_history in
    omega (arith, route.2, from.owner_is, past))

unsent : (config : ConfigValue) (liars : Nodes) (run : Run) (node : ℕ) (kind : Kind) (owner place : ℕ) (c : Command) →
    IsClusterRun config liars run → config.roles.sizes.nodes ≤ owner → node < config.roles.sizes.nodes →
    of_kind kind (sent_at config.roles.sizes node (history_of node run) owner place) ≡ Some c → ⊥
unsent config liars run node Send owner place c is past within e =
    let own = send_is_own config.roles.sizes node (history_of node run)
    Send owner place c refl e in omega (arith, own, past, within)
unsent config liars run node Echo owner place c is past within e =
    let none = ap echoed (none_taken config liars run node owner place is past) ∙ echoed-none in absurd cc
unsent config liars run node Ready owner place c is past within e =
    let none = ap (readied config.roles.sizes) (none_taken config liars run node owner place is past)
    ∙ readied-none config.roles.sizes in absurd cc

-- nothing is sent of an owner that is no node
pub foreign_is_unsent : (config : ConfigValue) (liars : Nodes) (run : Run) (node : ℕ) (m : Message)
    → IsClusterRun config liars run →
    config.roles.sizes.nodes ≤ m.owner → node < config.roles.sizes.nodes
    → has_sent config.roles.sizes run node m ≡ false
foreign_is_unsent config liars run node m is past within =
    by (has_sent config.roles.sizes run node m)
    (λ sent. unsent config liars run node m.kind m.owner m.place m.command is past within (has_sent_is
    config.roles.sizes run node m sent))
  where
    by : (b : Bool) → (b ≡ true → ⊥) → b ≡ false
    by true h = absurd (h refl)
    by false h = refl

below : (a b : ℕ) (c : Bool) → (nat_lt a b && c) ≡ true → a < b
below a b c e = let less : nat_lt a b ≡ true = (and_parts _ _ e).0 in grind (arith, nat_tests)

pub correct_is_node : (s : Counts) (liars : Nodes) (name : ℕ) → is_correct s liars name ≡ true → name < s.nodes
correct_is_node s liars name e = below name s.nodes _ e

-- Forgery.

-- a packet in a correct node's name of an owner that is no node was not sent
pub foreign_is_forged : (w : WorldValue) (p : PacketValue) (node : NodeValue) → IsClusterRunOf w
    → Some node ≡ node_due w p.from →
    w.config.roles.sizes.nodes ≤ p.owner → is_forged w p ≡ true
foreign_is_forged w p node is here past =
    let from = node_is w p.from node (sym here) in
    let unsaid = foreign_is_unsent w.config w.liars w.run p.from (message_of p)
    is past (correct_is_node w.config.roles.sizes w.liars p.from from.correct) in
    λ i. from.correct i && not (unsaid i)

pub forged_is : (w : WorldValue) (p : PacketValue) (node : NodeValue) → Some node ≡ node_due w p.from →
    is_forged w p
    ≡ not (is_for p.command (of_kind p.kind (sent_at node.config.roles.sizes node.me node.history p.owner p.place)))
unfolding has_sent
forged_is w p node here =
    let from = node_is w p.from node (sym here) in
    (λ i. from.correct i && not (has_sent w.config.roles.sizes w.run p.from (message_of p)))
    ∙ ap (λ (n : NodeValue). not (is_for p.command (of_kind p.kind (sent_at n.config.roles.sizes n.me n.history
    p.owner p.place)))) (sym from.is)

-- Streams.

pub least_is : (w : WorldValue) (i j owner : ℕ) (a b : NodeValue) → Some a ≡ node_due w i → Some b ≡ node_due w j →
    min (reach_at a.config.roles.sizes a.history owner) (reach_at b.config.roles.sizes b.history owner)
    ≡ min (reach_of w.config w.run i owner) (reach_of w.config w.run j owner)
least_is w i j owner a b here there =
    let first = node_is w i a (sym here) in
    let second = node_is w j b (sym there) in
    λ k. min (reach_at (first.is k).config.roles.sizes (first.is k).history owner)
    (reach_at (second.is k).config.roles.sizes (second.is k).history owner)

-- how far two correct nodes' streams agree is the least of their reaches
pub agree_is : (w : WorldValue) (i j owner : ℕ) (a b : NodeValue) → IsClusterRunOf w → Some a ≡ node_due w i
    → Some b ≡ node_due w j →
    owner < w.config.roles.sizes.nodes →
    Some (min (reach_at a.config.roles.sizes a.history owner) (reach_at b.config.roles.sizes b.history owner))
    ≡ agree_due w i j owner
agree_is w i j owner a b is here there within =
    let first = node_is w i a (sym here) in
    let second = node_is w j b (sym there) in
    let node : nat_lt owner w.config.roles.sizes.nodes ≡ true = grind (arith, nat_tests) in
    let agreed = (consistency w.config w.liars w.run is).streams_agree i j owner first.correct second.correct in
    ap Some (least_is w i j owner a b here there ∙ sym agreed)
    ∙ sym (λ k. if first.correct k && second.correct k && node k
    then Some (common_length (stream_at w.config.roles.sizes (history_of i w.run) owner)
    (stream_at w.config.roles.sizes (history_of j w.run) owner)) else None)

-- Decisions.

pub decision_is : (w : WorldValue) (name session user operation object : ℕ) (decision : Verdict)
    → is_correct_in w name ≡ true →
    decision ≡ verdict_at w.config.roles (history_of name w.run) session user operation object →
    Some decision ≡ decision_due w.config w.liars w.run name session user operation object
decision_is w name session user operation object decision correct is =
    ap Some is
    ∙ sym (ap (λ b. if b then Some (verdict_at w.config.roles (history_of name w.run)
    session user operation object) else None) correct)

-- Numbers of packets.

pub nodes_are : (config : ConfigValue) (liars : Nodes) (run : Run) → IsClusterRun config liars run
    → 0 < config.roles.sizes.nodes
nodes_are config liars run is = omega (arith, is.sizes.1)

pub few_messages : (m nodes limit : ℕ) → 0 < nodes → m * nodes ≤ limit → m ≤ limit
few_messages m nodes limit some within =
    let at_least : m ≤ m * nodes = le-mul_of_pos_right m some in
    omega (arith, at_least, within)

-- packet k of a world's pool, by the messages that it keeps
pub number_in_world : (w : WorldValue) (sent : List Sent) (k nodes to : ℕ) (s : Sent) → IsClusterRunOf w
    → sent ≡ messages w.config w.run →
    nodes ≡ w.config.roles.sizes.nodes → to ≡ k % nodes → slice_get sent (k / nodes) ≡ Some s →
    packet_due s.0 to s.1 ≡ slice_get (pool w.config w.run) k
number_in_world w sent k nodes to s is messages_are sizes number at =
    let here : slice_get (messages w.config w.run) (k / w.config.roles.sizes.nodes) ≡ Some s =
    (λ i. slice_get (sym messages_are i) (k / sym sizes i)) ∙ at in
    let name : to ≡ k % w.config.roles.sizes.nodes = number ∙ ap (λ n. k % n) sizes in
    ap (λ n. packet_due s.0 n s.1) name
    ∙ number_is_due w.config w.liars w.run k s is (nodes_are w.config w.liars w.run is) here

pub no_number_in_world : (w : WorldValue) (sent : List Sent) (k nodes : ℕ) → IsClusterRunOf w
    → sent ≡ messages w.config w.run →
    nodes ≡ w.config.roles.sizes.nodes → slice_get sent (k / nodes) ≡ None → None ≡ slice_get (pool w.config w.run) k
no_number_in_world w sent k nodes is messages_are sizes at =
    let here : slice_get (messages w.config w.run) (k / w.config.roles.sizes.nodes) ≡ None =
    (λ i. slice_get (sym messages_are i) (k / sym sizes i)) ∙ at in
    sym (no_number w.config w.run k (nodes_are w.config w.liars w.run is) here)
