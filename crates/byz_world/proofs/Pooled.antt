-- What the correct nodes of a cluster run have sent stands in its pool, and nothing else.
use Rattle.std.proofs.Common.{◌≡◌, ℕ, suc, ◌+◌, ◌<◌, ◌⊎◌, inl, inr, ⊎_elim, Bool, true, false}
use Rattle.std.proofs.Common.{◌==◌, List, [], ◌∷◌, ◌++◌, length, take, Option, Some, None}
use Rattle.std.proofs.Common.{refl, sym, ap, ◌∙◌, subst, append-nil, append_assoc, arith}
use Rattle.std.specs.Prelude.{if◌then◌else◌, IsTrue, slice_get, Contains, option_map}
use Rattle.std.specs.List.{range_with_len}
use Rattle.std.proofs.Math.Seq.{take-append_seam}
use Rattle.std.proofs.lemmas.List.Elements.{Contains-append_left, Contains-append_right, Contains-append_cases}
use Rattle.std.proofs.lemmas.Option.{slice_get-map, slice_get_within, slice_get-get_or}
use Rattle.std.proofs.lemmas.List.FromFn.{length-range_with_len, get_or-range_with_len, length-map-range_with_len}
use Rattle.std.proofs.lemmas.Map.Views.{exact_unsigned_eq}
use Rattle.quorum_sizes.specs.Sizes.{Counts}
use Rattle.quorum_sizes.specs.NodeSets.{Nodes}
use Rattle.role_commands.proofs.Exported.{slice_get-seam}
use Rattle.role_commands.specs.declared.command.Command.{Command}
use Rattle.link_frames.specs.declared.frames.kind.Kind.{Kind}
use Rattle.link_frames.specs.declared.frames.kind.Kind.TheVariants.{Send, Echo, Ready}
use Rattle.link_frames.specs.declared.frames.packet.Message.{Message}
use Rattle.link_frames.specs.frames.Packets.{PacketValue, packet_of, message_of}
use Rattle.bracha_instance.proofs.Exported as bracha
use Rattle.bracha_instance.specs.Broadcast.{is_for, echoed, readied}
use Rattle.owner_streams.specs.Places.{takes_at}
use Rattle.owner_streams.proofs.Exported.{echoed-none, readied-none}
use Rattle.role_node.proofs.Exported.{issued-none, packets-none}
use Rattle.role_node.specs.Access.{sent_at}
use Rattle.role_node.specs.Answers.{answer_due, sent_by_answer, is_recorded, IsLegal}
use Rattle.role_node.specs.Configs.{ConfigValue}
use Rattle.role_node.specs.declared.event.Event.{Event}
use Rattle.byz_world.specs.Runs.{Run, history_of, is_correct, of_kind, has_sent, IsClusterRun}
use Rattle.byz_world.specs.Pools.{Sent, listed, sends_next, messages_after, messages, packets_of}
use Rattle.byz_world.specs.Pools.{pool, WasSent}
use Rattle.byz_world.specs.Laws.{PoolIsWhatWasSent}
use Rattle.byz_world.proofs.Elements.{number_of, contained, contains_listed}
use Rattle.byz_world.proofs.Elements.{listed_contains, contains_flat, flat_contains}
use Rattle.byz_world.proofs.Sending.{said, said_stays, said_newly, answered_is_said}
use Rattle.byz_world.proofs.Pushing.{history_of-append, history_of-none, history_of-own}
use Rattle.byz_world.proofs.Pushing.{history_of-push, history_of-push_other}

-- A message was sent where its command is the one that was sent there.

pub is_for_some : (c : Command) (o : Option Command) → is_for c o ≡ true → o ≡ Some c
is_for_some c None e = absurd cc
is_for_some c (Some d) e = ap Some (sym (bracha.same_command-true c d e))

pub some_is_for : (c : Command) (o : Option Command) → o ≡ Some c → is_for c o ≡ true
some_is_for c o e = ap (is_for c) e ∙ bracha.same_command-refl c

pub has_sent_is : (s : Counts) (run : Run) (node : ℕ) (m : Message) → IsTrue (has_sent s run node m) →
    said s node (history_of node run) m ≡ Some m.command
unfolding has_sent
has_sent_is s run node m sent = is_for_some m.command _ sent

pub is_has_sent : (s : Counts) (run : Run) (node : ℕ) (m : Message)
    → said s node (history_of node run) m ≡ Some m.command →
    IsTrue (has_sent s run node m)
unfolding has_sent
is_has_sent s run node m e = some_is_for m.command _ e

-- what was sent stays so
pub has_sent_stays : (s : Counts) (before later : Run) (node : ℕ) (m : Message) → IsTrue (has_sent s before node m) →
    IsTrue (has_sent s (before ++ later) node m)
has_sent_stays s before later node m sent =
    is_has_sent s (before ++ later) node m
    (ap (λ h. said s node h m) (history_of-append node before later)
    ∙ said_stays s node (history_of node before) (history_of node later) m m.command (has_sent_is s before node m sent))

-- Along the run from a past on.

-- an event of the run is recorded after its node's past
pub recorded_after : (config : ConfigValue) (past rest : Run) (node : ℕ) (e : Event) →
    IsLegal config node (history_of node (past ++ (node, e) ∷ rest)) →
    is_recorded (answer_due config node (history_of node past) e) ≡ true
recorded_after config past rest node e legal =
    let h : List Event = history_of node past in
    let split : history_of node (past ++ (node, e) ∷ rest) ≡ h ++ e ∷ history_of node rest =
    history_of-append node past ((node, e) ∷ rest) ∙ ap (λ es. h ++ es) (history_of-own node e rest) in
    let at : slice_get (history_of node (past ++ (node, e) ∷ rest)) (length h) ≡ Some e =
    ap (λ es. slice_get es (length h)) split ∙ slice_get-seam h (history_of node rest) e in
    let before : take (length h) (history_of node (past ++ (node, e) ∷ rest)) ≡ h =
    ap (take (length h)) split ∙ take-append_seam h (e ∷ history_of node rest) in
    let P : List Event → Type 0 = λ es. IsTrue (is_recorded (answer_due config node es e)) in
    subst P before (legal (length h) e at)

-- what a node has sent after one pair more, it had sent before, or the pair sends it
said_by_pair : (config : ConfigValue) (past rest : Run) (pair : ℕ × Event) (node : ℕ) (m : Message) (b : Bool)
    → (pair.0 == node) ≡ b →
    IsLegal config node (history_of node (past ++ pair ∷ rest)) →
    said config.roles.sizes node (history_of node (past ++ pair ∷ [])) m ≡ Some m.command →
    (said config.roles.sizes node (history_of node past) m ≡ Some m.command) ⊎ (sends_next config past pair
    ≡ Some (node, m))
said_by_pair config past rest pair node m false other legal now =
    inl (ap (λ h. said config.roles.sizes node h m) (sym (history_of-push_other node pair past other)) ∙ now)
said_by_pair config past rest pair node m true own legal now =
    let same : pair.0 ≡ node = exact_unsigned_eq pair.0 node own in
    let e : Event = pair.1 in
    let is : pair ≡ (node, e) = λ i. (same i, e) in
    let P : ℕ × Event → Type 0 = λ q. IsLegal config node (history_of node (past ++ q ∷ rest)) in
    let recorded = recorded_after config past rest node e (subst P is legal) in
    let pushed : said config.roles.sizes node (history_of node past ++ e ∷ []) m ≡ Some m.command =
    ap (λ h. said config.roles.sizes node h m) (sym (ap (λ q. history_of node (past ++ q ∷ [])) is
    ∙ history_of-push node e past)) ∙ now in
    ⊎_elim
    (λ (was : said config.roles.sizes node (history_of node past) m ≡ Some m.command). inl was)
    (λ (sends : sent_by_answer (answer_due config node (history_of node past) e) ≡ Some m).
    inr (ap (sends_next config past) is ∙ ap (option_map (λ x. (node, x))) sends))
    (said_newly config node (history_of node past) e m recorded pushed)

-- what a node has sent after the run, it had sent before, or it is among the messages of the run
said_is_sent : (config : ConfigValue) (past run : Run) (node : ℕ) (m : Message) →
    IsLegal config node (history_of node (past ++ run)) →
    said config.roles.sizes node (history_of node (past ++ run)) m ≡ Some m.command →
    (said config.roles.sizes node (history_of node past) m
    ≡ Some m.command) ⊎ Contains (messages_after config past run) (node, m)
unfolding messages_after
said_is_sent config past [] node m legal now =
    inl (ap (λ r. said config.roles.sizes node (history_of node r) m) (sym (append-nil past)) ∙ now)
said_is_sent config past (pair ∷ run) node m legal now =
    let step : Run = past ++ pair ∷ [] in
    let split : past ++ pair ∷ run ≡ step ++ run = sym (append_assoc past (pair ∷ []) run) in
    let P : Run → Type 0 = λ r. IsLegal config node (history_of node r) in
    let Q : Run → Type 0 = λ r. said config.roles.sizes node (history_of node r) m ≡ Some m.command in
    ⊎_elim
    (λ (before : said config.roles.sizes node (history_of node step) m ≡ Some m.command).
    ⊎_elim
    (λ (was : said config.roles.sizes node (history_of node past) m ≡ Some m.command). inl was)
    (λ (sends : sends_next config past pair ≡ Some (node, m)).
    inr (Contains-append_left _ (messages_after config step run) (node, m)
    (listed_contains (sends_next config past pair) (node, m) sends)))
    (said_by_pair config past run pair node m _ refl legal before))
    (λ (later : Contains (messages_after config step run)
    (node, m)). inr (Contains-append_right _ (messages_after config step run) (node, m) later))
    (said_is_sent config step run node m (subst P split legal) (subst Q split now))

nothing_taken : (owner place : ℕ) → takes_at owner place [] ≡ []
unfolding takes_at
nothing_taken owner place = refl

nothing_said : (s : Counts) (me : ℕ) (m : Message) → said s me [] m ≡ None
nothing_said s me m = nothing_of s me m.kind m.owner m.place
  where
    none_of : (b : Bool) (place : ℕ) → ◌≡◌ {A = Option Command} (if b then slice_get [] place else None) None
    none_of true place = refl
    none_of false place = refl

    nothing_of : (s : Counts) (me : ℕ) (kind : Kind) (owner place : ℕ)
        → of_kind kind (sent_at s me [] owner place) ≡ None
    nothing_of s me Send owner place = ap (λ cs. if owner == me then slice_get cs place else None) issued-none
        ∙ none_of (owner == me) place
    nothing_of s me Echo owner place = ap (λ ps. echoed (takes_at owner place ps)) packets-none
        ∙ ap echoed (nothing_taken owner place) ∙ echoed-none
    nothing_of s me Ready owner place = ap (λ ps. readied s (takes_at owner place ps)) packets-none
        ∙ ap (readied s) (nothing_taken owner place) ∙ readied-none s

-- each message was said by its node then
sent_is_said : (config : ConfigValue) (past run : Run) (sent : Sent) → Contains (messages_after config past run) sent →
    said config.roles.sizes sent.0 (history_of sent.0 (past ++ run)) sent.1 ≡ Some sent.1.command
unfolding messages_after
sent_is_said config past [] sent c = absurd (omega (arith, c.1))
sent_is_said config past (pair ∷ run) sent c =
    let step : Run = past ++ pair ∷ [] in
    let split : past ++ pair ∷ run ≡ step ++ run = sym (append_assoc past (pair ∷ []) run) in
    let Q : Run → Type 0 = λ r. said config.roles.sizes sent.0 (history_of sent.0 r) sent.1 ≡ Some sent.1.command in
    ⊎_elim
    (λ (now : Contains (listed (sends_next config past pair)) sent).
    let sends = by_answer config past pair sent (contains_listed (sends_next config past pair) sent now) in
    let after : Q step =
    ap (λ h. said config.roles.sizes sent.0 h sent.1)
    (ap (λ n. history_of sent.0 (past ++ (n, pair.1) ∷ [])) sends.0 ∙ history_of-push sent.0 pair.1 past)
    ∙ answered_is_said config sent.0 (history_of sent.0 past) pair.1 sent.1 sends.1 in
    subst Q (sym split)
    (ap (λ h. said config.roles.sizes sent.0 h sent.1) (history_of-append sent.0 step run)
    ∙ said_stays config.roles.sizes sent.0 (history_of sent.0 step)
    (history_of sent.0 run) sent.1 sent.1.command after))
    (λ (later : Contains (messages_after config step run) sent). subst Q (sym split)
    (sent_is_said config step run sent later))
    (Contains-append_cases (listed (sends_next config past pair)) (messages_after config step run) sent c)
  where
    mapped : (n : ℕ) (o : Option Message) (sent : Sent) → option_map (λ m. (n, m)) o ≡ Some sent
        → (n ≡ sent.0) × (o ≡ Some sent.1)
    mapped n None sent e = absurd cc
    mapped n (Some m) sent e = let same : (n, m) ≡ sent = cc in (ap (λ x. x.0) same, ap (λ x. Some x.1) same)

    by_answer : (config : ConfigValue) (past : Run) (pair : ℕ × Event) (sent : Sent)
        → sends_next config past pair ≡ Some sent →
        (pair.0 ≡ sent.0) × (sent_by_answer (answer_due config sent.0 (history_of sent.0 past) pair.1) ≡ Some sent.1)
    by_answer config past pair sent e =
        let m = mapped pair.0 _ sent e in
        let P : ℕ → Type 0 = λ n. sent_by_answer (answer_due config n (history_of n past) pair.1) ≡ Some sent.1 in
        (m.0, subst P m.0 m.1)

-- .. and is of a pair of the run
sent_by_pair : (config : ConfigValue) (past run : Run) (sent : Sent) → Contains (messages_after config past run) sent →
    (t : ℕ) × (e : Event) × (slice_get run t ≡ Some (sent.0, e))
unfolding messages_after
sent_by_pair config past [] sent c = absurd (omega (arith, c.1))
sent_by_pair config past (pair ∷ run) sent c =
    ⊎_elim
    (λ (now : Contains (listed (sends_next config past pair)) sent).
    let same : pair.0 ≡ sent.0 = sender pair.0 _ sent (contains_listed (sends_next config past pair) sent now) in
    (0, pair.1, (λ i. Some (same i, pair.1))))
    (λ (later : Contains (messages_after config (past ++ pair ∷ []) run) sent).
    let l = sent_by_pair config (past ++ pair ∷ []) run sent later in (suc l.0, l.1, l.2))
    (Contains-append_cases (listed (sends_next config past pair))
    (messages_after config (past ++ pair ∷ []) run) sent c)
  where
    sender : (n : ℕ) (o : Option Message) (sent : Sent) → option_map (λ m. (n, m)) o ≡ Some sent → n ≡ sent.0
    sender n None sent e = absurd cc
    sender n (Some m) sent e = let same : (n, m) ≡ sent = cc in ap (λ x. x.0) same

-- The messages of a cluster run.

pub sent_is_message : (config : ConfigValue) (run : Run) (node : ℕ) (m : Message)
    → IsLegal config node (history_of node run) →
    IsTrue (has_sent config.roles.sizes run node m) → Contains (messages config run) (node, m)
sent_is_message config run node m legal sent =
    ⊎_elim
    (λ (before : said config.roles.sizes node (history_of node []) m ≡ Some m.command).
    let none : said config.roles.sizes node (history_of node []) m ≡ None =
    ap (λ h. said config.roles.sizes node h m) (history_of-none node) ∙ nothing_said config.roles.sizes node m in
    absurd cc)
    (λ (c : Contains (messages_after config [] run) (node, m)). c)
    (said_is_sent config [] run node m legal (has_sent_is config.roles.sizes run node m sent))

pub message_is_sent : (config : ConfigValue) (run : Run) (sent : Sent) → Contains (messages config run) sent →
    IsTrue (has_sent config.roles.sizes run sent.0 sent.1)
message_is_sent config run sent c = is_has_sent config.roles.sizes run sent.0 sent.1 (sent_is_said config [] run sent c)

pub sender_is_correct : (config : ConfigValue) (liars : Nodes) (run : Run) (sent : Sent)
    → IsClusterRun config liars run →
    Contains (messages config run) sent → IsTrue (is_correct config.roles.sizes liars sent.0)
sender_is_correct config liars run sent is c =
    let pair = sent_by_pair config [] run sent c in is.correct pair.0 sent.0 pair.1 pair.2

-- A packet to each node.

pub name_at : (nodes k : ℕ) → k < nodes → slice_get (range_with_len 0 nodes) k ≡ Some k
name_at nodes k h =
    slice_get-get_or (range_with_len 0 nodes) k 0 (omega (arith, length-range_with_len 0 nodes, h))
    ∙ ap Some (get_or-range_with_len 0 nodes k 0 h ∙ zero_more k)
  where
    zero_more : (k : ℕ) → 0 + k ≡ k
    zero_more k = omega arith

-- packet k of a message's is to node k
pub number_in : (nodes : ℕ) (sent : Sent) (k : ℕ) (p : PacketValue) → slice_get (packets_of nodes sent) k ≡ Some p →
    (k < nodes) × (packet_of sent.0 k sent.1 ≡ p)
number_in nodes sent k p at =
    let within : k < nodes =
    omega (
      arith,
      slice_get_within (packets_of nodes sent)
          k p at,
      length-map-range_with_len (λ to. packet_of sent.0 to sent.1) 0 nodes,
    ) in
    let is : Some (packet_of sent.0 k sent.1) ≡ Some p =
    sym (slice_get-map (λ to. packet_of sent.0 to sent.1) (range_with_len 0 nodes) k
    ∙ ap (option_map (λ to. packet_of sent.0 to sent.1)) (name_at nodes k within)) ∙ at in
    (within, cc)

pub to_each : (from to nodes : ℕ) (m : Message) → to < nodes
    → Contains (packets_of nodes (from, m)) (packet_of from to m)
to_each from to nodes m h =
    contained (packets_of nodes (from, m)) to (packet_of from to m)
    (slice_get-map (λ n. packet_of from n m) (range_with_len 0 nodes) to
    ∙ ap (option_map (λ n. packet_of from n m)) (name_at nodes to h))

-- what a correct node has sent stands in the pool, to each node
pub sent_is_pooled : (config : ConfigValue) (liars : Nodes) (run : Run) (node to : ℕ) (m : Message)
    → IsClusterRun config liars run →
    IsTrue (has_sent config.roles.sizes run node m) → to < config.roles.sizes.nodes →
    Contains (pool config run) (packet_of node to m)
unfolding pool
sent_is_pooled config liars run node to m is sent h =
    flat_contains (packets_of config.roles.sizes.nodes) (messages config run) (node, m) (packet_of node to m)
    (sent_is_message config run node m (is.legal node) sent) (to_each node to config.roles.sizes.nodes m h)

-- a packet of the pool is from a correct node, to a node, and was sent
pub pooled_is_sent : (config : ConfigValue) (liars : Nodes) (run : Run) (p : PacketValue)
    → IsClusterRun config liars run →
    Contains (pool config run) p → WasSent config liars run p
unfolding pool
pooled_is_sent config liars run p is c =
    let found = contains_flat (packets_of config.roles.sizes.nodes) (messages config run) p c in
    let sent : Sent = found.0 in
    let at = number_of (packets_of config.roles.sizes.nodes sent) p found.2 in
    let to = number_in config.roles.sizes.nodes sent at.0 p at.1 in
    let P : PacketValue → Type 0 = λ q. WasSent config liars run q in
    subst P to.1
    (record {
      from = sender_is_correct config liars run sent is found.1;
      to = to.0;
      sent = message_is_sent config run sent found.1;
    })

pub pool_is_what_was_sent : PoolIsWhatWasSent
pool_is_what_was_sent config liars run p is = (
  pooled_is_sent config liars run p is,
  λ was. sent_is_pooled config liars run p.from p.to (message_of p) is was.sent
      was.to,
)
