-- What a world's fields keep when a node records an event.
use Rattle.std.proofs.Common.{◌≡◌, ◌≢◌, ℕ, zero, suc, ◌+◌, ◌*◌, ◌<◌, ◌≤◌, Bool, true, false}
use Rattle.std.proofs.Common.{◌==◌, List, [], ◌∷◌, ◌++◌, length, Option, Some, None}
use Rattle.std.proofs.Common.{Ok, refl, sym, ap, ◌∙◌, subst, append-nil, length-append, arith}
use Rattle.std.specs.Prelude.{if◌then◌else◌, nat_lt, slice_get, slice_set, option_map, option_and_then}
use Rattle.std.proofs.lemmas.Bool.Decides.{nat_tests}
use Rattle.std.proofs.lemmas.Map.Views.{exact_unsigned_eq}
use Rattle.quorum_sizes.specs.NodeSets.{Nodes}
use Rattle.link_frames.specs.declared.frames.packet.Message.{Message}
use Rattle.bracha_instance.specs.declared.instance.Effect.TheVariants as effect
use Rattle.role_node.specs.Answers.{outlook, reply_to, sent_by, sent_by_answer, answered, answer_due, is_recorded}
use Rattle.role_node.specs.Configs.{ConfigValue}
use Rattle.role_node.specs.Nodes.{NodeValue, with_event}
use Rattle.role_node.specs.declared.event.Event.{Event}
use Rattle.role_node.specs.declared.event.Event.TheVariants.{Issue, Take, Client}
use Rattle.role_node.specs.declared.event.Reply.{Reply}
use Rattle.role_sessions.specs.declared.event.ClientEvent.TheVariants.{Open, Activate, DropRole, Close}
use Rattle.byz_world.specs.Runs.{Run, history_of, IsClusterRun}
use Rattle.byz_world.specs.Pools.{Sent, listed, sends_next, messages, pool}
use Rattle.byz_world.specs.Worlds.{WorldValue, node_in, node_due, is_correct_in}
use Rattle.byz_world.specs.inside.Kept.{Members, member_in, history_in, run_in, world_in, IsWorldIn, MayHappen, is_act}
use Rattle.byz_world.proofs.Pushing.{history_of-push, history_of-push_other, messages-push}
use Rattle.byz_world.proofs.Growing.{cluster_run_push}
use Rattle.byz_world.proofs.Numbering.{pool-length}
use Rattle.byz_world.proofs.Ordered.{times, times-append, times-own, times-other, IsLonger, run_after-push}

set_here : {A : Type 0} (xs : List A) (i : ℕ) (x : A) → i < length xs → slice_get (slice_set xs i x) i ≡ Some x
set_here [] i x h = absurd (omega (arith, h))
set_here (y ∷ xs) zero x h = refl
set_here (y ∷ xs) (suc i) x h = set_here xs i x (omega (arith, h))

set_elsewhere : {A : Type 0} (xs : List A) (i j : ℕ) (x : A) → i ≢ j → slice_get (slice_set xs i x) j ≡ slice_get xs j
set_elsewhere [] i j x other = refl
set_elsewhere (y ∷ xs) zero zero x other = absurd (other refl)
set_elsewhere (y ∷ xs) zero (suc j) x other = refl
set_elsewhere (y ∷ xs) (suc i) zero x other = refl
set_elsewhere (y ∷ xs) (suc i) (suc j) x other = set_elsewhere xs i j x (λ e. other (ap suc e))

pub set-length : {A : Type 0} (xs : List A) (i : ℕ) (x : A) → length (slice_set xs i x) ≡ length xs
set-length [] i x = refl
set-length (y ∷ xs) zero x = refl
set-length (y ∷ xs) (suc i) x = ap suc (set-length xs i x)

pub set_same : {A : Type 0} (xs : List A) (i : ℕ) (x : A) → slice_get xs i ≡ Some x → slice_set xs i x ≡ xs
set_same [] i x e = refl
set_same (y ∷ xs) zero x e = let same : y ≡ x = cc in ap (λ z. z ∷ xs) (sym same)
set_same (y ∷ xs) (suc i) x e = ap (λ zs. y ∷ zs) (set_same xs i x e)

member_within : (members : Members) (name : ℕ) (node : NodeValue) → member_in members name ≡ Some node
    → name < length members
member_within [] name node e = absurd cc
member_within (m ∷ members) zero node e = omega arith
member_within (m ∷ members) (suc name) node e = omega (arith, member_within members name node e)

apart : (a b : ℕ) → (a == b) ≡ false → a ≢ b
apart a b e same = absurd (clash (a == b) e (ap (λ n. a == n) (sym same) ∙ own a))
  where
    own : (a : ℕ) → (a == a) ≡ true
    own a = grind (arith, nat_tests)

    clash : (t : Bool) → t ≡ false → t ≡ true → ⊥
    clash t f g = cc

-- a correct node is among the members
pub correct_member : (config : ConfigValue) (liars : Nodes) (members : Members) (order : List ℕ) (sent : List Sent) →
    IsWorldIn config liars members order sent → (name : ℕ)
    → is_correct_in (world_in config liars members order) name ≡ true →
    member_in members name ≡ Some (node_in (world_in config liars members order) name)
correct_member config liars members order sent is name correct =
    let w : WorldValue = world_in config liars members order in
    is.nodes name ∙ ap (λ b. if b then Some (node_in w name) else None) correct

-- the answer due to an event that counts is its reply
answer_is : (config : ConfigValue) (me : ℕ) (history : List Event) (e : Event)
    → outlook config me history e ≡ Ok effect.Counted →
    answer_due config me history e ≡ Ok (reply_to config.roles me history e)
answer_is config me history e counts = ap (λ o. answered o (reply_to config.roles me history e)) counts

recorded_is : (config : ConfigValue) (me : ℕ) (history : List Event) (e : Event)
    → is_recorded (Ok (reply_to config.roles me history e)) ≡ true
recorded_is config me history (Issue c) = refl
recorded_is config me history (Take p) = refl
recorded_is config me history (Client (Open user)) = refl
recorded_is config me history (Client (Activate session user role)) = refl
recorded_is config me history (Client (DropRole session user role)) = refl
recorded_is config me history (Client (Close session user)) = refl

pub counted_recorded : (config : ConfigValue) (me : ℕ) (history : List Event) (e : Event)
    → outlook config me history e ≡ Ok effect.Counted →
    is_recorded (answer_due config me history e) ≡ true
counted_recorded config me history e counts = ap is_recorded (answer_is config me history e counts)
    ∙ recorded_is config me history e

act_sends_nothing : (config : ConfigValue) (me : ℕ) (history : List Event) (e : Event) → is_act e ≡ true →
    sent_by (reply_to config.roles me history e) ≡ None
act_sends_nothing config me history (Issue c) h = absurd cc
act_sends_nothing config me history (Take p) h = absurd cc
act_sends_nothing config me history (Client (Open user)) h = refl
act_sends_nothing config me history (Client (Activate session user role)) h = refl
act_sends_nothing config me history (Client (DropRole session user role)) h = refl
act_sends_nothing config me history (Client (Close session user)) h = refl

abbrev world_of : ConfigValue → Nodes → Run → WorldValue
world_of config liars run = record { config = config; liars = liars; run = run }

-- the node of a name after the run, where it was the node of the run before
node_after : (config : ConfigValue) (liars : Nodes) (run : Run) (at name : ℕ) (e : Event) (b : Bool)
    → (at == name) ≡ b →
    is_correct_in (world_of config liars run) at ≡ true → (members members' : Members) →
    member_in members name ≡ node_due (world_of config liars run) name →
    member_in members' at ≡ Some (with_event (node_in (world_of config liars run) at) e) →
    ((at == name) ≡ false → member_in members' name ≡ member_in members name) →
    member_in members' name ≡ node_due (world_of config liars (run ++ (at, e) ∷ [])) name
node_after config liars run at name e true own correct members members' was now others =
    let same : at ≡ name = exact_unsigned_eq at name own in
    let w' : WorldValue = world_of config liars (run ++ (at, e) ∷ []) in
    let due : node_due w' at ≡ Some (with_event (node_in (world_of config liars run) at) e) =
    ap (λ b. if b then Some (node_in w' at) else None) correct
    ∙ (λ i. Some (record { config = config; me = at; history = history_of-push at e run i })) in
    subst (λ n. member_in members' n ≡ node_due w' n) same (now ∙ sym due)
node_after config liars run at name e false other correct members members' was now others =
    let w' : WorldValue = world_of config liars (run ++ (at, e) ∷ []) in
    others other ∙ was
    ∙ (λ i. if is_correct_in (world_of config liars run) name
    then Some (record {
      config = config;
      me = name;
      history =
          sym (history_of-push_other name (at, e) run other) i;
    }) else None)

named_after : (at name : ℕ) (order : List ℕ) (h h' : ℕ → List Event) (e : Event) (b : Bool) → (at == name) ≡ b
    → IsLonger h h' at e →
    times name order ≡ length (h name) → times name (order ++ at ∷ []) ≡ length (h' name)
named_after at name order h h' e true own longer was =
    let same : at ≡ name = exact_unsigned_eq at name own in
    let now : length (h' name) ≡ length (h name) + 1 =
    ap length (subst (λ n. h' n ≡ h n ++ e ∷ []) same longer.own) ∙ length-append (h name) (e ∷ []) in
    let more : times name (order ++ at ∷ []) ≡ times name order + 1 =
    times-append name order (at ∷ []) ∙ ap (λ n. times name order + times name (n ∷ [])) same
    ∙ ap (λ k. times name order + k) (times-own name [] ∙ omega arith) in
    omega (arith, was, now, more)
named_after at name order h h' e false other longer was =
    let more : times name (order ++ at ∷ []) ≡ times name order =
    times-append name order (at ∷ []) ∙ ap (λ k. times name order + k) (times-other name at [] other) ∙ omega arith in
    more ∙ was ∙ ap length (sym (longer.others name other))

room_for : (most pooled nodes : ℕ) → nat_lt most (pooled + nodes) ≡ false → pooled + nodes ≤ most
room_for most pooled nodes e = grind (arith, nat_tests)

-- a message more is a packet more to each node, for which there is room
within_by : (limit nodes : ℕ) (sent : List Sent) (at : ℕ) (message : Option Message) (act : Bool) →
    length sent * nodes ≤ limit → (act ≡ true → message ≡ None) → (act ≡ false → length sent * nodes + nodes ≤ limit) →
    length (sent ++ listed (option_map (λ m. (at, m)) message)) * nodes ≤ limit
within_by limit nodes sent at None act was none room =
    subst (λ xs. length xs * nodes ≤ limit) (sym (append-nil sent)) was
within_by limit nodes sent at (Some m) true was none room = let clash = none refl in absurd cc
within_by limit nodes sent at (Some m) false was none room =
    let long : length (sent ++ (at, m) ∷ []) ≡ length sent + 1 = length-append sent ((at, m) ∷ []) in
    let more : length (sent ++ (at, m) ∷ []) * nodes ≡ length sent * nodes + nodes = ap (λ k. k * nodes) long
    ∙ grind arith in
    omega (arith, more, room refl)

-- the fields after a node has recorded an event and its message was kept
pub record HasGrown (config : ConfigValue) (liars : Nodes) (run : Run) (at : ℕ) (e : Event) (members' : Members)
    (order' : List ℕ)
    (sent' : List Sent) : Type 0 where
  pub is : IsWorldIn config liars members' order' sent'
  pub run_is : run_in members' order' ≡ run ++ (at, e) ∷ []

pub world_grows : (config : ConfigValue) (liars : Nodes) (members : Members) (order : List ℕ) (sent : List Sent)
    (at : ℕ) (e : Event) →
    IsWorldIn config liars members order sent → MayHappen (world_in config liars members order) at e →
    outlook config at (history_of at (run_in members order)) e ≡ Ok effect.Counted →
    HasGrown config liars (run_in members order) at e
    (slice_set members at (Some (with_event (node_in (world_in config liars members order) at) e))) (order ++ at ∷ [])
    (sent ++ listed (option_map (λ m. (at, m))
    (sent_by (reply_to config.roles at (history_of at (run_in members order)) e))))
world_grows config liars members order sent at e is may counts =
    let run : Run = run_in members order in
    let w : WorldValue = world_in config liars members order in
    let past : List Event = history_of at run in
    let reply : Reply = reply_to config.roles at past e in
    let node' : NodeValue = with_event (node_in w at) e in
    let members' : Members = slice_set members at (Some node') in
    let order' : List ℕ = order ++ at ∷ [] in
    let sent' : List Sent = sent ++ listed (option_map (λ m. (at, m)) (sent_by reply)) in
    let h : ℕ → List Event = λ name. history_in (member_in members name) in
    let h' : ℕ → List Event = λ name. history_in (member_in members' name) in
    let here : member_in members at
    ≡ Some (node_in w at) = correct_member config liars members order sent is at may.follows.correct in
    let now : member_in members' at ≡ Some node' =
    ap (option_and_then (λ x. x)) (set_here members at (Some node') (member_within members at (node_in w at) here)) in
    let others : (name : ℕ) → (at == name) ≡ false → member_in members' name ≡ member_in members name =
    λ name other. ap (option_and_then (λ x. x)) (set_elsewhere members at name (Some node') (apart at name other)) in
    let longer : IsLonger h h' at e = record {
      own = ap history_in now ∙ ap (λ es. es ++ e ∷ []) (sym (ap history_in here));
      others = λ name other. ap history_in (others name other);
    } in
    let run_is : run_in members' order' ≡ run ++ (at, e) ∷ [] = run_after-push h h' [] order at e longer is.named in
    let answer = answer_is config at past e counts in
    let grown : IsClusterRun config liars (run ++ (at, e) ∷ []) =
    cluster_run_push config liars run at e is.cluster may.follows (counted_recorded config at past e counts) in
    let sends : sends_next config run (at, e) ≡ option_map (λ m. (at, m)) (sent_by reply) =
    ap (λ a. option_map (λ m. (at, m)) (sent_by_answer a)) answer in
    let messages_are : messages config (run ++ (at, e) ∷ []) ≡ sent' =
    messages-push config run (at, e) ∙ (λ i. sym is.messages i ++ listed (sends i)) in
    let counted : length (pool config run) ≡ length sent * config.roles.sizes.nodes =
    pool-length config run ∙ ap (λ ms. length ms * config.roles.sizes.nodes) (sym is.messages) in
    let fits : length sent' * config.roles.sizes.nodes ≤ config.limit =
    within_by config.limit config.roles.sizes.nodes sent at (sent_by reply) (is_act e)
    (omega (arith, counted, is.within))
    (act_sends_nothing config at past e)
    (λ sending. let room = room_for config.limit (length (pool config run))
    config.roles.sizes.nodes (may.room sending) in omega (arith, counted, room)) in
    let pooled : length (pool config (run_in members' order')) ≡ length sent' * config.roles.sizes.nodes =
    ap (λ r. length (pool config r)) run_is ∙ pool-length config (run ++ (at, e) ∷ [])
    ∙ ap (λ ms. length ms * config.roles.sizes.nodes) messages_are in
    record {
      is = record {
        cluster = subst (IsClusterRun config liars) (sym run_is) grown;
        one_each = set-length members at (Some node') ∙ is.one_each;
        nodes = λ name.
            node_after config liars run at name e _ refl may.follows.correct members members' (is.nodes name)
            now (others name)
            ∙ ap (λ r. node_due (world_of config liars r) name) (sym run_is);
        named = λ name. named_after at name order h h' e _ refl longer (is.named name);
        messages = sym (ap (messages config) run_is ∙ messages_are);
        within = omega (arith, pooled, fits);
        limit = is.limit;
      };
      run_is = run_is;
    }

-- As the code has it.

-- what a node's answer and the fields after it are, where the event counts
pub record IsRecorded (config : ConfigValue) (liars : Nodes) (w : WorldValue) (at : ℕ) (e : Event) (reply : Reply)
    (members' : Members)
    (order' : List ℕ) (sent' : List Sent) : Type 0 where
  pub reply_is : reply ≡ reply_to w.config.roles at (history_of at w.run) e
  pub grown : HasGrown config liars w.run at e members' order' sent'

pub is_recorded_in : (config : ConfigValue) (liars : Nodes) (members : Members) (order : List ℕ)
    (sent : List Sent) (w : WorldValue)
    (at : ℕ) (e : Event) (reply : Reply) (members' : Members) (order' : List ℕ) (sent' : List Sent) →
    IsWorldIn config liars members order sent → world_in config liars members order ≡ w → MayHappen w at e →
    outlook w.config at (history_of at w.run) e ≡ Ok effect.Counted →
    ((node : NodeValue) → member_in members at ≡ Some node
    → reply ≡ reply_to node.config.roles node.me node.history e) →
    ((node : NodeValue) → member_in members at ≡ Some node
    → members' ≡ slice_set members at (Some (with_event node e))) →
    order' ≡ order ++ at ∷ [] → sent' ≡ sent ++ listed (option_map (λ m. (at, m)) (sent_by reply)) →
    IsRecorded config liars w at e reply members' order' sent'
is_recorded_in config liars members order sent w at e reply members' order' sent' is same may counts due set named
    sends =
    let start : WorldValue = world_in config liars members order in
    let past : List Event = history_of at (run_in members order) in
    let R : Reply = reply_to config.roles at past e in
    let P : WorldValue → Type 0 = λ v. MayHappen v at e in
    let C : WorldValue → Type 0 = λ v. outlook v.config at (history_of at v.run) e ≡ Ok effect.Counted in
    let may' : MayHappen start at e = subst P (sym same) may in
    let counts' : outlook config at past e ≡ Ok effect.Counted = subst C (sym same) counts in
    let here = correct_member config liars members order sent is at may'.follows.correct in
    let reply_is : reply ≡ R = due (node_in start at) here in
    let members_are : members' ≡ slice_set members at (Some (with_event (node_in start at) e)) =
    set (node_in start at) here in
    let sent_is : sent' ≡ sent ++ listed (option_map (λ m. (at, m)) (sent_by R)) =
    sends ∙ ap (λ r. sent ++ listed (option_map (λ m. (at, m)) (sent_by r))) reply_is in
    let grown = world_grows config liars members order sent at e is may' counts' in
    let G : WorldValue → Type 0 = λ v. IsRecorded config liars v at e reply members' order' sent' in
    subst G same
    (record {
      reply_is = reply_is;
      grown = rw (members_are, named, sent_is) grown;
    })

-- a correct node's member is that node
pub member_is : {config : ConfigValue} {liars : Nodes} {members : Members} {order : List ℕ} {sent : List Sent}
    {w : WorldValue} {at : ℕ} {e : Event} →
    IsWorldIn config liars members order sent → world_in config liars members order ≡ w → MayHappen w at e →
    (P : NodeValue → Type 0) → P (node_in w at) → (node : NodeValue) → member_in members at ≡ Some node → P node
member_is {config} {liars} {members} {order} {sent} {w} {at} {e} is same may P holds node here =
    let Q : WorldValue → Type 0 = λ v. MayHappen v at e in
    let may' = subst Q (sym same) may in
    let there = correct_member config liars members order sent is at may'.follows.correct in
    let is_node : node_in (world_in config liars members order) at ≡ node = cc in
    subst P (ap (λ v. node_in v at) (sym same) ∙ is_node) holds
