-- A run with one pair more: its histories, and what was sent in it.
use Rattle.std.proofs.Common.{◌≡◌, ℕ, ◌+◌, ◌≤◌, false, ◌==◌, [], ◌∷◌, ◌++◌, length, Some, None}
use Rattle.std.proofs.Common.{refl, sym, ap, ◌∙◌, append-nil, append_assoc, length-append, arith}
use Rattle.std.specs.Prelude.{if◌then◌else◌}
use Rattle.std.specs.List.{filter_map, cons_option}
use Rattle.std.proofs.lemmas.List.Elements.{filter_map-append}
use Rattle.std.proofs.lemmas.Bool.{eq-eqb}
use Rattle.role_commands.proofs.Exported.{filter_map-length}
use Rattle.role_node.specs.Configs.{ConfigValue}
use Rattle.role_node.specs.declared.event.Event.{Event}
use Rattle.byz_world.specs.Runs.{Run, event_at, history_of}
use Rattle.byz_world.specs.Pools.{listed, sends_next, messages_after, messages}

pub history_of-append : (node : ℕ) (before later : Run)
    → history_of node (before ++ later) ≡ history_of node before ++ history_of node later
unfolding history_of
history_of-append node before later = filter_map-append (event_at node) before later

pub history_of-none : (node : ℕ) → history_of node [] ≡ []
unfolding history_of
history_of-none node = refl

-- a pair of the node is its first event ..
pub history_of-own : (node : ℕ) (e : Event) (later : Run)
    → history_of node ((node, e) ∷ later) ≡ e ∷ history_of node later
unfolding history_of
history_of-own node e later =
    ap (λ b. cons_option (if b then Some e else None) (filter_map (event_at node) later)) (eq-eqb node node refl)

-- .. and of no other
pub history_of-other : (node : ℕ) (pair : ℕ × Event) (later : Run) → (pair.0 == node) ≡ false →
    history_of node (pair ∷ later) ≡ history_of node later
unfolding history_of
history_of-other node pair later other =
    ap (λ b. cons_option (if b then Some pair.1 else None) (filter_map (event_at node) later)) other

pub history_of-push : (node : ℕ) (e : Event) (run : Run)
    → history_of node (run ++ (node, e) ∷ []) ≡ history_of node run ++ e ∷ []
history_of-push node e run =
    history_of-append node run ((node, e) ∷ [])
    ∙ ap (λ es. history_of node run ++ es) (history_of-own node e [] ∙ ap (λ es. e ∷ es) (history_of-none node))

pub history_of-push_other : (node : ℕ) (pair : ℕ × Event) (run : Run) → (pair.0 == node) ≡ false →
    history_of node (run ++ pair ∷ []) ≡ history_of node run
history_of-push_other node pair run other =
    history_of-append node run (pair ∷ [])
    ∙ ap (λ es. history_of node run ++ es) (history_of-other node pair [] other ∙ history_of-none node)
    ∙ append-nil (history_of node run)

-- a history is no longer than its run, and grows by no more than that does
pub history-length : (node : ℕ) (run : Run) → length (history_of node run) ≤ length run
unfolding history_of
history-length node run = filter_map-length (event_at node) run

pub prolonged-length : (node : ℕ) (run more : Run) →
    length (history_of node (run ++ more)) ≤ length (history_of node run) + length more
prolonged-length node run more =
    let long : length (history_of node (run ++ more)) ≡ length (history_of node run) + length (history_of node more) =
    ap length (history_of-append node run more) ∙ length-append (history_of node run) (history_of node more) in
    omega (arith, long, history-length node more)

messages_after-push : (config : ConfigValue) (past run : Run) (pair : ℕ × Event) →
    messages_after config past (run ++ pair ∷ [])
    ≡ messages_after config past run ++ listed (sends_next config (past ++ run) pair)
unfolding messages_after
messages_after-push config past [] pair =
    append-nil (listed (sends_next config past pair))
    ∙ ap (λ r. listed (sends_next config r pair)) (sym (append-nil past))
messages_after-push config past (first ∷ run) pair =
    ap (λ ms. listed (sends_next config past first) ++ ms) (messages_after-push config (past ++ first ∷ []) run pair)
    ∙ sym (append_assoc (listed (sends_next config past first)) (messages_after config (past ++ first ∷ []) run) _)
    ∙ ap (λ r. (listed (sends_next config past first) ++ messages_after config (past ++ first ∷ []) run)
    ++ listed (sends_next config r pair))
    (append_assoc past (first ∷ []) run)

-- one pair more sends what its answer does
pub messages-push : (config : ConfigValue) (run : Run) (pair : ℕ × Event) →
    messages config (run ++ pair ∷ []) ≡ messages config run ++ listed (sends_next config run pair)
messages-push config run pair = messages_after-push config [] run pair

pub messages-none : (config : ConfigValue) → messages config [] ≡ []
unfolding messages_after
messages-none config = refl
