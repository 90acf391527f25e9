-- A world whose members have taken all that was sent is at rest, and the other way round.
use Rattle.std.proofs.Common.{◌≡◌, ℕ, zero, suc, Bool, true, false, ◌&&◌, List, [], ◌∷◌, ◌++◌, Option, Some, None}
use Rattle.std.proofs.Common.{refl, sym, ap, ◌∙◌}
use Rattle.std.specs.Prelude.{IsTrue, slice_get, option_and_then, Contains, ◌↔◌}
use Rattle.std.specs.List.{list_all}
use Rattle.std.proofs.lemmas.Bool.{and_parts, and_from}
use Rattle.std.proofs.lemmas.List.Folds.{list_all-append}
use Rattle.quorum_sizes.specs.NodeSets.{Nodes}
use Rattle.link_frames.specs.frames.Packets.{PacketValue, packet_of, packet_due}
use Rattle.role_node.specs.Configs.{ConfigValue}
use Rattle.role_node.specs.Nodes.{NodeValue}
use Rattle.byz_world.specs.Runs.{Run, history_of}
use Rattle.byz_world.specs.Pools.{Sent, messages, packets_of, pool}
use Rattle.byz_world.specs.Resting.{IsAtRest}
use Rattle.byz_world.specs.Worlds.{WorldValue, node_in}
use Rattle.byz_world.specs.inside.Kept.{Members, run_in, world_in, IsWorldIn, has_taken, has_taken_packet}
use Rattle.byz_world.specs.inside.Kept.{has_taken_all}
use Rattle.byz_world.proofs.Elements.{number_of, contained, contains_flat, flat_contains}
use Rattle.byz_world.proofs.Pooled.{number_in, to_each, pooled_is_sent}
use Rattle.byz_world.proofs.Idle.{taken_is_idle, idle_is_taken}
use Rattle.byz_world.proofs.Recording.{correct_member}
use Rattle.byz_world.proofs.Sound.{message_is_due}
use Rattle.byz_world.proofs.Telling.{node_is, correct_is_node}

passes_at : {A : Type 0} (p : A → Bool) (xs : List A) (k : ℕ) (x : A) → list_all p xs ≡ true
    → slice_get xs k ≡ Some x → p x ≡ true
passes_at p [] k x all at = absurd cc
passes_at p (y ∷ xs) zero x all at = let same : y ≡ x = cc in ap p (sym same) ∙ (and_parts _ _ all).0
passes_at p (y ∷ xs) (suc k) x all at = passes_at p xs k x (and_parts _ _ all).1 at

all_pass : {A : Type 0} (p : A → Bool) (xs : List A) → ((k : ℕ) (x : A) → slice_get xs k ≡ Some x → p x ≡ true)
    → list_all p xs ≡ true
all_pass p [] each = refl
all_pass p (y ∷ xs) each = and_from _ _ (each 0 y refl) (all_pass p xs (λ k x at. each (suc k) x at))

-- where the last one passes, all pass exactly if the others do
pub others_are_all : {A : Type 0} (p : A → Bool) (xs others : List A) (last : A) → xs ≡ others ++ last ∷ []
    → p last ≡ true → list_all p others ≡ list_all p xs
others_are_all p xs others last is passes =
    sym (ap (list_all p) is ∙ list_all-append p others (last ∷ [])
    ∙ ap (λ b. list_all p others && (b && true)) passes ∙ and_yes (list_all p others))
  where
    and_yes : (b : Bool) → (b && true) ≡ b
    and_yes true = refl
    and_yes false = refl

slot_is : (o : Option (Option NodeValue)) (node : NodeValue) → option_and_then (λ x. x) o ≡ Some node
    → o ≡ Some (Some node)
slot_is None node e = absurd cc
slot_is (Some None) node e = absurd cc
slot_is (Some (Some n)) node e = ap Some e

-- where all have taken all, each packet of the pool to a correct node was taken there
taken_rests : (config : ConfigValue) (liars : Nodes) (members : Members) (order : List ℕ) (sent : List Sent) →
    IsWorldIn config liars members order sent → list_all (has_taken_all sent) members ≡ true
    → IsAtRest config liars (run_in members order)
unfolding pool
taken_rests config liars members order sent is all p c correct =
    let run : Run = run_in members order in
    let w : WorldValue = world_in config liars members order in
    let node : NodeValue = node_in w p.to in
    let slot = slot_is _ node (correct_member config liars members order sent is p.to correct) in
    let taken : list_all (has_taken node) sent
    ≡ true = passes_at (has_taken_all sent) members p.to (Some node) all slot in
    let found = contains_flat (packets_of config.roles.sizes.nodes) (messages config run) p c in
    let s : Sent = found.0 in
    let inside = number_of (packets_of config.roles.sizes.nodes s) p found.2 in
    let numbered = number_in config.roles.sizes.nodes s inside.0 p inside.1 in
    let same : packet_of s.0 p.to s.1 ≡ p = ap (λ (q : PacketValue). packet_of s.0 q.to s.1) (sym numbered.1)
    ∙ numbered.1 in
    let place = number_of (messages config run) s found.1 in
    let own = passes_at (has_taken node) sent place.0 s taken (ap (λ ms. slice_get ms place.0) is.messages ∙ place.1) in
    let due : packet_due s.0 p.to s.1 ≡ Some p =
    message_is_due config liars run is.cluster s p.to found.1 ∙ ap Some same in
    idle_is_taken config liars run p is.cluster (pooled_is_sent config liars run p is.cluster c)
    (ap (has_taken_packet node) (sym due) ∙ own)

rested_member : (config : ConfigValue) (liars : Nodes) (members : Members) (order : List ℕ) (sent : List Sent) →
    IsWorldIn config liars members order sent → IsAtRest config liars (run_in members order)
    → (k : ℕ) (slot : Option NodeValue) →
    slice_get members k ≡ Some slot → has_taken_all sent slot ≡ true
unfolding pool
rested_member config liars members order sent is rest k None at = refl
rested_member config liars members order sent is rest k (Some node) at =
    let run : Run = run_in members order in
    let w : WorldValue = world_in config liars members order in
    let here = node_is w k node (sym (is.nodes k) ∙ ap (option_and_then (λ x. x)) at) in
    let own : (j : ℕ) (s : Sent) → slice_get sent j ≡ Some s → has_taken (node_in w k) s ≡ true =
    λ j s there.
    let message : Contains (messages config run) s =
    contained (messages config run) j s (ap (λ ms. slice_get ms j) (sym is.messages) ∙ there) in
    let p : PacketValue = packet_of s.0 k s.1 in
    let pooled : Contains (pool config run) p =
    flat_contains (packets_of config.roles.sizes.nodes) (messages config run) s p message
    (to_each s.0 k config.roles.sizes.nodes s.1 (correct_is_node config.roles.sizes liars k here.correct)) in
    ap (has_taken_packet (node_in w k)) (message_is_due config liars run is.cluster s k message)
    ∙ taken_is_idle config k (history_of k run) p (is.cluster.legal k) (rest p pooled here.correct) in
    ap (λ n. list_all (has_taken n) sent) here.is ∙ all_pass (has_taken (node_in w k)) sent own

-- what the members have taken tells whether the world is at rest
pub rest_is : (config : ConfigValue) (liars : Nodes) (members : Members) (order : List ℕ) (sent : List Sent) →
    IsWorldIn config liars members order sent →
    IsTrue (list_all (has_taken_all sent) members) ↔ IsAtRest config liars (run_in members order)
rest_is config liars members order sent is = (
  λ all. taken_rests config liars members order sent is all,
  λ rest. all_pass (has_taken_all sent) members (rested_member config liars members order sent is rest),
)
