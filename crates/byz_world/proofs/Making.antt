-- A world in which nothing has happened, and its keys.
use Rattle.std.proofs.Common.{◌≡◌, ℕ, ◌<◌, ◌≤◌, ⊎_elim, Bool, true, false, ◌&&◌, List}
use Rattle.std.proofs.Common.{[], length, Option, Some, None, refl, sym, ap, ◌∙◌, arith}
use Rattle.std.specs.Prelude.{if◌then◌else◌, nat_lt, not, map, slice_get, option_map, option_and_then}
use Rattle.std.specs.FinSet as sets
use Rattle.std.specs.List.{range_with_len, flat_map}
use Rattle.std.proofs.lemmas.Bool.{cases_lt}
use Rattle.std.proofs.lemmas.Bool.Decides.{nat_tests}
use Rattle.std.proofs.lemmas.List.FromFn.{length-map-range_with_len}
use Rattle.std.proofs.lemmas.Option.{slice_get-map, slice_get_past}
use Rattle.quorum_sizes.specs.Sizes.{Counts, AreSizes}
use Rattle.quorum_sizes.specs.NodeSets.{Nodes, nodes_among}
use Rattle.link_frames.specs.frames.KeyRings.{KeyRing}
use Rattle.role_node.specs.Configs.{ConfigValue, most_events}
use Rattle.role_node.specs.Nodes.{NodeValue, new_node}
use Rattle.byz_world.specs.Runs.{history_of}
use Rattle.byz_world.specs.Pools.{packets_of, pool}
use Rattle.byz_world.specs.Worlds.{WorldValue, new_world, node_in, node_due, is_correct_in}
use Rattle.byz_world.specs.LabKeys.{lab_ring, ring_due, rings_due, ring_in}
use Rattle.byz_world.specs.inside.Kept.{member_in, history_in, run_after, run_in, IsWorldIn}
use Rattle.byz_world.proofs.Pushing.{history_of-none, messages-none}
use Rattle.byz_world.proofs.Pooled.{name_at}
use Rattle.byz_world.proofs.Growing.{empty_run}

-- the node of a world in which nothing has happened is new
pub new_node_is : (config : ConfigValue) (liars : Nodes) (name : ℕ) → name < config.roles.sizes.nodes →
    sets.contains liars name ≡ false → Some (new_node config name) ≡ node_due (new_world config liars) name
new_node_is config liars name node honest =
    let test : nat_lt name config.roles.sizes.nodes ≡ true = grind (arith, nat_tests) in
    sym ((λ i. if (test i && not (honest i)) then Some (node_in (new_world config liars) name) else None)
    ∙ (λ i. Some (record { config = config; me = name; history = history_of-none name i })))

-- no name past the nodes is a node's
pub past_is_none : (w : WorldValue) (name : ℕ) → w.config.roles.sizes.nodes ≤ name → node_due w name ≡ None
past_is_none w name past =
    let test : nat_lt name w.config.roles.sizes.nodes ≡ false = grind (arith, nat_tests) in
    ap (λ b. if (b && not (sets.contains w.liars name)) then Some (node_in w name) else None) test

-- what is kept for each name, by its name; nothing is for a name past the nodes
kept_at : {A : Type 0} (due : ℕ → Option A) (nodes name : ℕ) → (nodes ≤ name → due name ≡ None) →
    option_and_then (λ x. x) (slice_get (map due (range_with_len 0 nodes)) name) ≡ due name
kept_at due nodes name none =
    ⊎_elim
    (λ (h : name < nodes).
    ap (option_and_then (λ x. x))
    (slice_get-map due (range_with_len 0 nodes) name ∙ ap (option_map due) (name_at nodes name h)))
    (λ (h : nodes ≤ name).
    ap (option_and_then (λ x. x))
    (slice_get_past (map due
    (range_with_len 0 nodes)) name (omega (arith, length-map-range_with_len due 0 nodes, h)))
    ∙ sym (none h))
    (cases_lt name nodes)

member_at : (w : WorldValue) (nodes name : ℕ) → w.config.roles.sizes.nodes ≡ nodes →
    member_in (map (node_due w) (range_with_len 0 nodes)) name ≡ node_due w name
member_at w nodes name all =
    kept_at (node_due w) nodes name (λ (h : nodes ≤ name). past_is_none w name (omega (arith, h, all)))

-- the keys of a node
pub ring_is : (s : Counts) (liars : Nodes) (rings : List (Option KeyRing)) (name : ℕ) → rings ≡ rings_due s liars →
    ring_in rings name ≡ ring_due s liars name
ring_is s liars rings name e =
    ap (λ rs. ring_in rs name) e
    ∙ kept_at (ring_due s liars) s.nodes name (λ (h : s.nodes ≤ name).
    let test : nat_lt name s.nodes ≡ false = grind (arith, nat_tests) in
    ap (λ b. if (b && not (sets.contains liars name)) then Some (lab_ring s name) else None) test)

pub new_ring_is : (s : Counts) (liars : Nodes) (name : ℕ) → name < s.nodes →
    sets.contains liars name ≡ false → Some (lab_ring s name) ≡ ring_due s liars name
new_ring_is s liars name node honest =
    let test : nat_lt name s.nodes ≡ true = grind (arith, nat_tests) in
    sym (λ i. if (test i && not (honest i)) then Some (lab_ring s name) else None)

nothing_in : (w : WorldValue) (name : ℕ) → w.run ≡ [] → (b : Bool) → is_correct_in w name ≡ b
    → history_in (node_due w name) ≡ []
nothing_in w name none true e = ap (λ b. history_in (if b then Some (node_in w name) else None)) e
    ∙ ap (history_of name) none ∙ history_of-none name
nothing_in w name none false e = ap (λ b. history_in (if b then Some (node_in w name) else None)) e

nothing_pooled : (config : ConfigValue) → length (pool config []) ≡ 0
unfolding pool
nothing_pooled config = ap (λ ms. length (flat_map (packets_of config.roles.sizes.nodes) ms)) (messages-none config)

-- the fields of a world in which nothing has happened
pub new_is_world : (config : ConfigValue) (liars : Nodes) (members : List (Option NodeValue)) →
    AreSizes config.roles.sizes → sets.len (nodes_among config.roles.sizes liars) ≤ config.roles.sizes.liars
    → config.limit ≤ most_events →
    members ≡ map (node_due (new_world config liars)) (range_with_len 0 config.roles.sizes.nodes) →
    IsWorldIn config liars members [] []
unfolding run_after
new_is_world config liars members sizes few limit e =
    let w : WorldValue = new_world config liars in
    let n : ℕ = config.roles.sizes.nodes in
    let each : (name : ℕ) → member_in members name ≡ node_due w name = λ name. ap (λ ms. member_in ms name) e
    ∙ member_at w n name refl in
    record {
      cluster = empty_run config liars sizes few;
      one_each = ap length e ∙ length-map-range_with_len (node_due w) 0 n;
      nodes = each;
      named = λ name. sym (ap (λ m. length (history_in m)) (each name) ∙ ap length (nothing_in w name refl _ refl));
      messages = sym (messages-none config);
      within = omega (arith, nothing_pooled config);
      limit = limit;
    }

-- an empty order has the empty run
pub no_run : (members : List (Option NodeValue)) (order : List ℕ) → order ≡ [] → run_in members order ≡ []
unfolding run_after
no_run members order e = ap (λ names. run_in members names) e
