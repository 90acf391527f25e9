-- Each packet of the pool by its number.
use Rattle.std.proofs.Common.{◌≡◌, ℕ, zero, suc, ◌+◌, ◌*◌, ◌<◌, List, [], ◌∷◌}
use Rattle.std.proofs.Common.{length, Some, refl, sym, ap, ◌∙◌, length-append, arith}
use Rattle.std.specs.Prelude.{slice_get, option_map, ◌/◌, ◌%◌}
use Rattle.std.specs.List.{range_with_len, flat_map}
use Rattle.std.proofs.Math.Nat.{mod-add-div'}
use Rattle.std.proofs.lemmas.Nat.{mod_below}
use Rattle.std.proofs.lemmas.List.FromFn.{length-map-range_with_len}
use Rattle.std.proofs.lemmas.Option.{slice_get-map}
use Rattle.role_commands.proofs.Exported.{slice_get-front}
use Rattle.link_frames.specs.frames.Packets.{packet_of}
use Rattle.role_node.specs.Configs.{ConfigValue}
use Rattle.byz_world.specs.Runs.{Run}
use Rattle.byz_world.specs.Pools.{Sent, messages, packets_of, pool}
use Rattle.byz_world.proofs.Elements.{at_tail}
use Rattle.byz_world.proofs.Pooled.{name_at}

packets-length : (nodes : ℕ) (sent : Sent) → length (packets_of nodes sent) ≡ nodes
packets-length nodes sent = length-map-range_with_len (λ to. packet_of sent.0 to sent.1) 0 nodes

all-length : (nodes : ℕ) (sent : List Sent) → length (flat_map (packets_of nodes) sent) ≡ length sent * nodes
all-length nodes [] = omega arith
all-length nodes (first ∷ sent) =
    let rest = all-length nodes sent in
    let one = packets-length nodes first in
    length-append (packets_of nodes first) (flat_map (packets_of nodes) sent) ∙ (λ i. one i + rest i) ∙ grind arith

-- a packet to each node for each message
pub pool-length : (config : ConfigValue) (run : Run)
    → length (pool config run) ≡ length (messages config run) * config.roles.sizes.nodes
unfolding pool
pool-length config run = all-length config.roles.sizes.nodes (messages config run)

own_packet : (nodes to : ℕ) (sent : Sent) → to < nodes
    → slice_get (packets_of nodes sent) to ≡ Some (packet_of sent.0 to sent.1)
own_packet nodes to sent h =
    slice_get-map (λ n. packet_of sent.0 n sent.1) (range_with_len 0 nodes) to
    ∙ ap (option_map (λ n. packet_of sent.0 n sent.1)) (name_at nodes to h)

pub packet_at : (nodes : ℕ) (sent : List Sent) (number to : ℕ) → to < nodes →
    slice_get (flat_map (packets_of nodes) sent) (number * nodes + to)
    ≡ option_map (λ s. packet_of s.0 to s.1) (slice_get sent number)
packet_at nodes [] number to h = refl
packet_at nodes (first ∷ sent) zero to h =
    let same : 0 * nodes + to ≡ to = omega arith in
    let within : to < length (packets_of nodes first) = omega (arith, packets-length nodes first, h) in
    ap (slice_get (flat_map (packets_of nodes) (first ∷ sent))) same
    ∙ slice_get-front (packets_of nodes first) (flat_map (packets_of nodes) sent) to within
    ∙ own_packet nodes to first h
packet_at nodes (first ∷ sent) (suc number) to h =
    let split : suc number * nodes + to ≡ nodes + (number * nodes + to) = grind arith in
    let past : nodes + (number * nodes + to) ≡ length (packets_of nodes first) + (number * nodes + to) =
    ap (λ n. n + (number * nodes + to)) (sym (packets-length nodes first)) in
    ap (slice_get (flat_map (packets_of nodes) (first ∷ sent))) (split ∙ past)
    ∙ sym (at_tail (packets_of nodes first) (flat_map (packets_of nodes) sent) (number * nodes + to))
    ∙ packet_at nodes sent number to h

-- packet k of the pool is message k / n to node k mod n
pub pool_at : (config : ConfigValue) (run : Run) (k : ℕ) → 0 < config.roles.sizes.nodes →
    slice_get (pool config run) k
    ≡ option_map (λ s. packet_of s.0 (k % config.roles.sizes.nodes) s.1) (slice_get (messages config run)
    (k / config.roles.sizes.nodes))
unfolding pool
pool_at config run k h =
    let n : ℕ = config.roles.sizes.nodes in
    let split : k ≡ k / n * n + k % n = omega (arith, mod-add-div' k n) in
    ap (slice_get (flat_map (packets_of n) (messages config run))) split
    ∙ packet_at n (messages config run) (k / n) (k % n) (mod_below k n h)
