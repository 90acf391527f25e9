-- How many packets about an owner's first places a run records, and how long a history is.
use Rattle.std.proofs.Common.{◌≡◌, ℕ, suc, ◌+◌, ◌*◌, ◌<◌, ◌≤◌, Bool, true, false, cond, ◌==◌, ◌&&◌}
use Rattle.std.proofs.Common.{List, [], ◌∷◌, ◌++◌, length, Some, refl, ap, ◌∙◌, subst}
use Rattle.std.proofs.Common.{length-append, arith, append-nil, append_assoc, eqb-true, ltb-true}
use Rattle.std.specs.Prelude.{filter, nat_lt, slice_get}
use Rattle.std.proofs.lemmas.Bool.{and_parts}
use Rattle.quorum_sizes.specs.Sizes.{Counts}
use Rattle.quorum_sizes.specs.NodeSets.{Nodes}
use Rattle.link_frames.specs.frames.Packets.{PacketValue}
use Rattle.owner_streams.proofs.Exported.{takes_at-own}
use Rattle.owner_streams.specs.Places.{take_of, takes_at}
use Rattle.role_node.proofs.Exported.{packets-Take}
use Rattle.role_node.specs.Configs.{ConfigValue}
use Rattle.role_node.specs.Histories.{packets}
use Rattle.role_node.specs.Work.{most_at_place}
use Rattle.role_node.specs.declared.event.Event.{Event}
use Rattle.role_node.specs.declared.event.Event.TheVariants as event
use Rattle.byz_world.specs.Progress.{is_about}
use Rattle.byz_world.specs.Runs.{Run, history_of, IsClusterRun}
use Rattle.byz_world.proofs.Histories.{taken_by}
use Rattle.byz_world.proofs.Prolonging.{total, total_most, total_keeps, total_more, longer}
use Rattle.byz_world.proofs.Pushing.{history_of-push}
use Rattle.byz_world.proofs.Telling.{correct_is_node}
use Rattle.byz_world.proofs.Work.{few_at_place}

longer_there : (run : Run) (node : ℕ) (p : PacketValue) →
    length (taken_by run node p.owner p.place) + 1
    ≤ length (taken_by (run ++ (node, event.Take p) ∷ []) node p.owner p.place)
longer_there run node p =
    let past : List Event = history_of node run in
    let is : taken_by (run ++ (node, event.Take p) ∷ []) node p.owner p.place
    ≡ taken_by run node p.owner p.place ++ take_of p ∷ [] =
    ap (λ h. takes_at p.owner p.place (packets h)) (history_of-push node (event.Take p) run)
    ∙ ap (takes_at p.owner p.place) (packets-Take past p) ∙ takes_at-own (packets past) p in
    let long = ap length is ∙ length-append (taken_by run node p.owner p.place) (take_of p ∷ []) in
    omega (arith, long)

-- what was recorded about an owner's places before one, at all nodes
abbrev at_node : Run → ℕ → ℕ → ℕ → ℕ
at_node run owner places node = total (λ place. length (taken_by run node owner place)) places

abbrev work : Run → ℕ → ℕ → ℕ → ℕ
work run owner nodes places = total (λ node. at_node run owner places node) nodes

abbrev one_if : ℕ → ℕ → ℕ × Event → ℕ
one_if owner places pair = cond (is_about owner places pair) 1 0

at_node_keeps : (run : Run) (pair : ℕ × Event) (owner places node : ℕ) →
    at_node run owner places node ≤ at_node (run ++ pair ∷ []) owner places node
at_node_keeps run pair owner places node = total_keeps _ _ places (λ k. longer run pair node owner k)

work_keeps : (run : Run) (pair : ℕ × Event) (owner nodes places : ℕ) →
    work run owner nodes places ≤ work (run ++ pair ∷ []) owner nodes places
work_keeps run pair owner nodes places = total_keeps _ _ nodes (at_node_keeps run pair owner places)

work_more : (run : Run) (node : ℕ) (p : PacketValue) (nodes places : ℕ) → node < nodes → p.place < places →
    work run p.owner nodes places + 1 ≤ work (run ++ (node, event.Take p) ∷ []) p.owner nodes places
work_more run node p nodes places within early =
    let pair : ℕ × Event = (node, event.Take p) in
    let run' : Run = run ++ pair ∷ [] in
    total_more (λ n. at_node run p.owner places n) (λ n. at_node run' p.owner places n) nodes node
    (at_node_keeps run pair p.owner places) within
    (total_more (λ k. length (taken_by run node p.owner k)) (λ k. length (taken_by run' node p.owner k)) places p.place
    (λ k. longer run pair node p.owner k) early (longer_there run node p))

step_by : (run : Run) (owner nodes places node : ℕ) (p : PacketValue) (b : Bool) →
    ((p.owner == owner) && nat_lt p.place places) ≡ b → node < nodes →
    cond b 1 0 + work run owner nodes places ≤ work (run ++ (node, event.Take p) ∷ []) owner nodes places
step_by run owner nodes places node p false is within =
    omega (arith, work_keeps run (node, event.Take p) owner nodes places)
step_by run owner nodes places node p true is within =
    let both = and_parts _ _ is in
    let own : p.owner ≡ owner = eqb-true p.owner owner both.0 in
    let early : p.place < places = ltb-true p.place places both.1 in
    let P : ℕ → Type 0 =
    λ o. work run o nodes places + 1 ≤ work (run ++ (node, event.Take p) ∷ []) o nodes places in
    let more : P owner = subst P own (work_more run node p nodes places within early) in
    omega (arith, more)

step_of : (run : Run) (owner nodes places node : ℕ) (e : Event) → node < nodes →
    one_if owner places (node, e) + work run owner nodes places
    ≤ work (run ++ (node, e) ∷ []) owner nodes places
step_of run owner nodes places node (event.Issue c) within =
    omega (arith, work_keeps run (node, event.Issue c) owner nodes places)
step_of run owner nodes places node (event.Take p) within = step_by run owner nodes places node p _ refl within
step_of run owner nodes places node (event.Client act) within =
    omega (arith, work_keeps run (node, event.Client act) owner nodes places)

one_more : {A : Type 0} (b : Bool) (x : A) (ys : List A) → length (cond b (x ∷ ys) ys) ≡ cond b 1 0 + length ys
one_more true x ys = omega arith
one_more false x ys = omega arith

counted : (owner nodes places : ℕ) (past rest : Run) →
    ((k node : ℕ) (e : Event) → slice_get rest k ≡ Some (node, e) → node < nodes) →
    length (filter (is_about owner places) rest) + work past owner nodes places
    ≤ work (past ++ rest) owner nodes places
counted owner nodes places past [] within =
    let same : work (past ++ []) owner nodes places ≡ work past owner nodes places =
    ap (λ r. work r owner nodes places) (append-nil past) in
    omega (arith, same)
counted owner nodes places past (pair ∷ rest) within =
    let one = step_of past owner nodes places pair.0 pair.1 (within 0 pair.0 pair.1 refl) in
    let later = counted owner nodes places (past ++ pair ∷ []) rest (λ k node e at. within (suc k) node e at) in
    let same : work ((past ++ pair ∷ []) ++ rest) owner nodes places ≡ work (past ++ pair ∷ rest) owner nodes places =
    ap (λ r. work r owner nodes places) (append_assoc past (pair ∷ []) rest) in
    let first : length (filter (is_about owner places) (pair ∷ rest))
    ≡ one_if owner places pair + length (filter (is_about owner places) rest) =
    one_more (is_about owner places pair) pair (filter (is_about owner places) rest) in
    omega (arith, one, later, same, first)

pub about_is_bounded : (config : ConfigValue) (liars : Nodes) (run : Run) (owner places : ℕ) →
    IsClusterRun config liars run → length (filter (is_about owner places) run)
    ≤ config.roles.sizes.nodes * (places * most_at_place config.roles.sizes)
about_is_bounded config liars run owner places cluster =
    let s : Counts = config.roles.sizes in
    let most = total_most (λ node. at_node run owner places node) s.nodes (places * most_at_place s)
    (λ node. total_most (λ place. length (taken_by run node owner place)) places (most_at_place s)
    (λ place. few_at_place config liars run node owner place cluster)) in
    let all = counted owner s.nodes places [] run
    (λ k node e at. correct_is_node s liars node (cluster.correct k node e at)) in
    omega (arith, most, all)
