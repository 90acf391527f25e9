-- Runs by their names, and what is said in a run that goes on.
use Rattle.std.proofs.Common.{◌≡◌, ℕ, suc, ◌<◌, Bool, true, false, ◌==◌, List, [], ◌∷◌, ◌++◌, length}
use Rattle.std.proofs.Common.{Some, refl, sym, ap, ◌∙◌, subst, append-nil, append_assoc, arith}
use Rattle.std.specs.Prelude.{slice_get, option_map}
use Rattle.std.proofs.lemmas.Map.Views.{exact_unsigned_eq}
use Rattle.quorum_sizes.specs.NodeSets.{Nodes}
use Rattle.role_node.specs.Configs.{ConfigValue}
use Rattle.role_node.specs.declared.event.Event.{Event}
use Rattle.byz_world.specs.Runs.{Run, history_of}
use Rattle.byz_world.specs.Pools.{Sent, listed, sends_next, messages_after, messages}
use Rattle.byz_world.specs.inside.Kept.{Members, member_in, history_in, next_event, run_after, run_in, IsWorldIn}
use Rattle.role_commands.proofs.Exported.{slice_get-seam}
use Rattle.byz_world.proofs.Ordered.{times, times-append, times-own, times-other}
use Rattle.byz_world.proofs.Progress.{some_within}
use Rattle.byz_world.proofs.Pushing.{history_of-append, history_of-none, history_of-own, history_of-other}

-- who recorded
unfoldable pub names : Run → List ℕ
names [] = []
names (pair ∷ run) = pair.0 ∷ names run

pub names-none : names [] ≡ []
unfolding names
names-none = refl

pub names-append : (before later : Run) → names (before ++ later) ≡ names before ++ names later
unfolding names
names-append [] later = refl
names-append (pair ∷ before) later = ap (λ ns. pair.0 ∷ ns) (names-append before later)

pub names-one : (pair : ℕ × Event) → names (pair ∷ []) ≡ pair.0 ∷ []
unfolding names
names-one pair = refl

names-length : (run : Run) → length (names run) ≡ length run
unfolding names
names-length [] = refl
names-length (pair ∷ run) = ap suc (names-length run)

-- a name stands there once for each of its events
times_by : (name : ℕ) (pair : ℕ × Event) (run : Run) (b : Bool) → (pair.0 == name) ≡ b →
    times name (names run) ≡ length (history_of name run) →
    times name (pair.0 ∷ names run) ≡ length (history_of name (pair ∷ run))
times_by name pair run false other rest =
    times-other name pair.0 (names run) other ∙ rest ∙ ap length (sym (history_of-other name pair run other))
times_by name pair run true own rest =
    let same : pair.0 ≡ name = exact_unsigned_eq pair.0 name own in
    let P : ℕ → Type 0 = λ n. times n (pair.0 ∷ names run) ≡ length (history_of n (pair ∷ run)) in
    let Q : ℕ → Type 0 = λ n. times n (names run) ≡ length (history_of n run) in
    let rest' : Q pair.0 = subst Q (sym same) rest in
    let long = ap length (history_of-own pair.0 pair.1 run) in
    subst P same (omega (arith, times-own pair.0 (names run), rest', long))

pub names-times : (name : ℕ) (run : Run) → times name (names run) ≡ length (history_of name run)
unfolding names
names-times name [] = sym (ap length (history_of-none name))
names-times name (pair ∷ run) = times_by name pair run (pair.0 == name) refl (names-times name run)

-- the run of its own names, where each of them has its history in it
pub run_of_names : (h : ℕ → List Event) (past rest : Run) →
    ((t node : ℕ) (e : Event) → slice_get rest t ≡ Some (node, e) → h node ≡ history_of node (past ++ rest)) →
    run_after h (names past) (names rest) ≡ rest
unfolding names run_after
run_of_names h past [] own = refl
run_of_names h past (pair ∷ rest) own =
    let name = pair.0 in
    let e = pair.1 in
    let step : Run = past ++ pair ∷ [] in
    let split : step ++ rest ≡ past ++ pair ∷ rest = append_assoc past (pair ∷ []) rest in
    let whole : h name ≡ history_of name past ++ e ∷ history_of name rest =
    own 0 name e refl ∙ history_of-append name past (pair ∷ rest)
    ∙ ap (λ es. history_of name past ++ es) (history_of-own name e rest) in
    let next : next_event h (names past) name ≡ Some (name, e) =
    ap (option_map (λ x. (name, x)))
    ((λ i. slice_get (whole i) (names-times name past i)) ∙ slice_get-seam (history_of name past)
    (history_of name rest) e) in
    let past_is : names step ≡ names past ++ name ∷ [] =
    names-append past (pair ∷ []) ∙ ap (λ ns. names past ++ ns) (names-one pair) in
    let later = run_of_names h step rest
    (λ t node x at. own (suc t) node x at ∙ ap (history_of node) (sym split)) in
    (λ i. listed (next i) ++ run_after h (sym past_is i) (names rest)) ∙ ap (λ r. pair ∷ r) later

-- the order is the names of the run
run_after-names : (h : ℕ → List Event) (past order : List ℕ) →
    ((name : ℕ) → times name (past ++ order) ≡ length (h name)) → names (run_after h past order) ≡ order
unfolding run_after names
run_after-names h past [] counts = refl
run_after-names h past (name ∷ order) counts =
    let step : List ℕ = past ++ name ∷ [] in
    let split : step ++ order ≡ past ++ name ∷ order = append_assoc past (name ∷ []) order in
    let within : times name past < length (h name) =
    omega (arith, counts name, times-append name past (name ∷ order), times-own name order) in
    let event' = some_within (h name) (times name past) within in
    let next : next_event h past name ≡ Some (name, event'.0) = ap (option_map (λ e. (name, e))) event'.1 in
    let rest = run_after-names h step order (λ n. ap (times n) split ∙ counts n) in
    ap (λ o. names (listed o ++ run_after h step order)) next ∙ ap (λ ns. name ∷ ns) rest

pub order_is_names : (config : ConfigValue) (liars : Nodes) (members : Members) (order : List ℕ) (sent : List Sent) →
    IsWorldIn config liars members order sent → order ≡ names (run_in members order)
order_is_names config liars members order sent is =
    sym (run_after-names (λ name. history_in (member_in members name)) [] order is.named)

pub run_length : (config : ConfigValue) (liars : Nodes) (members : Members) (order : List ℕ) (sent : List Sent) →
    IsWorldIn config liars members order sent → length (run_in members order) ≡ length order
run_length config liars members order sent is =
    sym (names-length (run_in members order)) ∙ ap length (sym (order_is_names config liars members order sent is))

-- who does not occur has no history
pub unnamed : (name : ℕ) (run : Run) → ((t node : ℕ) (e : Event) → slice_get run t ≡ Some (node, e) →
    (node == name) ≡ false) → history_of name run ≡ []
unnamed name [] none = history_of-none name
unnamed name (pair ∷ run) none =
    history_of-other name pair run (none 0 pair.0 pair.1 refl)
    ∙ unnamed name run (λ t node e at. none (suc t) node e at)

-- what is said in a run that goes on stands behind what was said
pub messages_after-append : (config : ConfigValue) (past before later : Run) →
    messages_after config past (before ++ later)
    ≡ messages_after config past before ++ messages_after config (past ++ before) later
unfolding messages_after
messages_after-append config past [] later = ap (λ r. messages_after config r later) (sym (append-nil past))
messages_after-append config past (pair ∷ before) later =
    let first = listed (sends_next config past pair) in
    let step : Run = past ++ pair ∷ [] in
    ap (λ ms. first ++ ms) (messages_after-append config step before later)
    ∙ sym (append_assoc first (messages_after config step before) _)
    ∙ ap (λ r. (first ++ messages_after config step before) ++ messages_after config r later)
    (append_assoc past (pair ∷ []) before)

pub messages-append : (config : ConfigValue) (before later : Run) →
    messages config (before ++ later) ≡ messages config before ++ messages_after config before later
messages-append config before later = messages_after-append config [] before later
