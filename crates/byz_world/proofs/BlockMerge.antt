-- The marks of a block, in the order of the packets: the run, the order and the messages go on as they are due.
use Rattle.std.proofs.Common.{◌≡◌, ℕ, zero, suc, ◌+◌, ◌-◌, ◌*◌, ◌<◌, ◌≤◌, ⊎_elim, Bool, true, false, ◌==◌, ◌&&◌}
use Rattle.std.proofs.Common.{List, [], ◌∷◌, ◌++◌, length, take, Option, Some, None, refl, sym, ap, ◌∙◌, subst, arith}
use Rattle.std.proofs.Common.{append-nil, append_assoc, length-append, Result, Ok, Err}
use Rattle.std.specs.Prelude.{if◌then◌else◌, not, nat_lt, min, slice_get, option_map, IfSome, Contains}
use Rattle.std.proofs.lemmas.Bool.{cases_lt}
use Rattle.std.proofs.lemmas.Bool.Decides.{nat_tests}
use Rattle.std.proofs.lemmas.Option.{slice_get_within, slice_get_past}
use Rattle.std.proofs.lemmas.Map.Views.{exact_unsigned_eq}
use Rattle.std.proofs.Math.Nat.{mul-le-mul_right}
use Rattle.link_frames.specs.frames.Packets.{PacketValue, packet_of, packet_due}
use Rattle.link_frames.specs.declared.frames.kind.Kind.{Kind}
use Rattle.link_frames.specs.declared.frames.packet.Message.{Message}
use Rattle.bracha_instance.specs.declared.instance.Effect.{Effect}
use Rattle.bracha_instance.specs.declared.instance.Effect.TheVariants as effect
use Rattle.owner_streams.specs.Steps.{step_of}
use Rattle.role_commands.specs.declared.command.Command.{Command}
use Rattle.role_node.proofs.Exported.{step_is_own}
use Rattle.role_node.specs.inside.Entries.{IsOwn}
use Rattle.role_node.specs.Histories.{packets}
use Rattle.role_node.specs.declared.faults.NodeFault.{NodeFault}
use Rattle.role_node.specs.Answers.{sent_by_answer, answered, outlook, reply_to, said_at}
use Rattle.role_node.specs.Nodes.{NodeValue, with_event}
use Rattle.role_node.specs.declared.event.Event.TheVariants as event
use Rattle.byz_world.specs.Runs.{Run, history_of}
use Rattle.byz_world.specs.Pools.{Sent, listed, messages, pool}
use Rattle.byz_world.specs.Worlds.{WorldValue, node_in, node_due, is_correct_in, IsClusterRunOf}
use Rattle.byz_world.specs.Giving.{counts_now}
use Rattle.byz_world.specs.Settled.{IsProlonged}
use Rattle.byz_world.specs.Steps.{arrival, given, is_pool_full, recorded_pair, with_run, after_step}
use Rattle.byz_world.specs.Settled.{after_gives}
use Rattle.byz_world.specs.declared.step.Step.TheVariants.{Give}
use Rattle.byz_world.specs.inside.Blocks.{counts_at, kind_of, sends_at, mark_of, taken, mark_due, after_take}
use Rattle.byz_world.specs.inside.Blocks.{after_takes, mark_in}
use Rattle.byz_world.specs.inside.Blocks.{noted_names, noted_messages, message_for, mark_of_row, row_names}
use Rattle.byz_world.specs.inside.Blocks.{row_messages}
use Rattle.byz_world.specs.inside.Blocks.{block_names, block_messages}
use Rattle.byz_world.specs.declared.block.Mark.{Mark}
use Rattle.byz_world.specs.declared.block.Mark.TheVariants.{Passed, Counted}
use Rattle.byz_world.proofs.BlockRuns.{names, names-append, names-one, names-none, messages-append}
use Rattle.byz_world.proofs.BlockNotes.{few_messages, row_names-none, row_names-next, row_messages-none}
use Rattle.byz_world.proofs.BlockNotes.{row_messages-next, block_names-none, block_names-next}
use Rattle.byz_world.proofs.BlockNotes.{block_messages-none, block_messages-next}
use Rattle.byz_world.proofs.Progress.{some_within}
use Rattle.byz_world.proofs.BlockTakes.{after_takes-push, after_takes-none}
use Rattle.byz_world.proofs.Elements.{contained, at_front}
use Rattle.byz_world.proofs.Numbering.{pool-length, packet_at}
use Rattle.byz_world.proofs.Passes.{give_prolongs, prolonged_more, prolonged_runs, prolonged_none, arrived}
use Rattle.byz_world.proofs.Passes.{pair_of, added, gives_next}
use Rattle.byz_world.proofs.Pushing.{history_of-push, history_of-push_other, messages-push}
use Rattle.byz_world.proofs.Sound.{message_is_due}
use Rattle.byz_world.proofs.Stepping.{after_where, after_steps-none}
use Rattle.byz_world.proofs.Telling.{correct_is_node}

-- A node that takes messages keeps its configuration and name.

taken-config : (node : NodeValue) (o : Option PacketValue) → (taken node o).config ≡ node.config
taken-config node None = refl
taken-config node (Some p) = by (counts_at node p)
  where
    by : (b : Bool) → (if b then with_event node (event.Take p) else node).config ≡ node.config
    by true = refl
    by false = refl

taken-me : (node : NodeValue) (o : Option PacketValue) → (taken node o).me ≡ node.me
taken-me node None = refl
taken-me node (Some p) = by (counts_at node p)
  where
    by : (b : Bool) → (if b then with_event node (event.Take p) else node).me ≡ node.me
    by true = refl
    by false = refl

pub takes-config : (node : NodeValue) (sent : List Sent) → (after_takes node sent).config ≡ node.config
unfolding after_takes
takes-config node [] = refl
takes-config node (s ∷ sent) = takes-config (after_take node s) sent ∙ taken-config node (packet_due s.0 node.me s.1)

pub takes-me : (node : NodeValue) (sent : List Sent) → (after_takes node sent).me ≡ node.me
unfolding after_takes
takes-me node [] = refl
takes-me node (s ∷ sent) = takes-me (after_take node s) sent ∙ taken-me node (packet_due s.0 node.me s.1)

-- what a node is after it took these, by its history then
pub takes_are : (w : WorldValue) (run : Run) (name : ℕ) (sent : List Sent) →
    history_of name run ≡ (after_takes (node_in w name) sent).history →
    after_takes (node_in w name) sent ≡ node_in (with_run w run) name
takes_are w run name sent e = λ i. record {
  config = takes-config (node_in w name) sent i;
  me = takes-me (node_in w name) sent i;
  history = sym e i;
}

-- What one mark adds.

module _ (w : WorldValue) (is : IsClusterRunOf w) (k name : ℕ) (s : Sent) (there : Contains (messages w.config w.run) s)
    (pooled : slice_get (pool w.config w.run) k ≡ Some (packet_of s.0 name s.1))
    (room : is_pool_full w ≡ false) where
  abbrev p : PacketValue
  p = packet_of s.0 name s.1

  abbrev here : NodeValue
  here = node_in w name

  due : packet_due s.0 name s.1 ≡ Some p
  due = message_is_due w.config w.liars w.run is s name there

  -- what giving the packet adds, by whether its receiver is correct, and whether it counts there
  pub added_is : (a c : Bool) → is_correct_in w name ≡ a → counts_now w.config w.run p ≡ c →
      added w k ≡ (if a && c then pair_of p ∷ [] else [])
  added_is a c correct counts =
      ap (λ o. recorded_pair w (given w o)) pooled ∙ arrived w p
      ∙ (λ i. if correct i && (not (room i) && counts i) then pair_of p ∷ [] else [])

  mark_is : (c : Bool) → counts_now w.config w.run p ≡ c →
      mark_due here s ≡ (if c then Counted (kind_of (sends_at here p)) else Passed)
  mark_is c counts =
      ap (mark_of here) due ∙ ap (λ b. if b then Counted (kind_of (sends_at here p)) else Passed) counts

  after_is : (c : Bool) → counts_now w.config w.run p ≡ c →
      after_take here s ≡ (if c then with_event here (event.Take p) else here)
  after_is c counts = ap (taken here) due ∙ ap (λ b. if b then with_event here (event.Take p) else here) counts

  -- who recorded, and what was said, is what the mark says
  pub names_are : (a c : Bool) → is_correct_in w name ≡ a → counts_now w.config w.run p ≡ c → (past : List Sent) →
      (o : Option NodeValue) → (a ≡ false → o ≡ None) → (a ≡ true → (node : NodeValue) × (o ≡ Some node)
      × (after_takes node past ≡ here)) →
      noted_names name (Some (mark_in o past s)) ≡ names (added w k)
  names_are false c correct counts past o none some =
      (λ i. noted_names name (Some (mark_in (none refl i) past s))) ∙ sym names-none
      ∙ ap names (sym (added_is false c correct counts))
  names_are true c correct counts past o none some =
      let one = some refl in
      (λ i. noted_names name (Some (mark_in (one.1 i) past s)))
      ∙ (λ i. noted_names name (Some (mark_due (one.2 i) s)))
      ∙ ap (λ m. noted_names name (Some m)) (mark_is c counts)
      ∙ by c ∙ ap names (sym (added_is true c correct counts))
    where
      by : (c : Bool) → noted_names name (Some (if c then Counted (kind_of (sends_at here p)) else Passed))
          ≡ names (if c then pair_of p ∷ [] else [])
      by true = sym (names-one (pair_of p))
      by false = sym names-none

  -- what a node sends for a packet is of its own message
  said_is_own : (m : Message) → sends_at here p ≡ Some m → m ≡ message_for s.1 m.kind
  said_is_own m e = by (outlook w.config name (history_of name w.run) (event.Take p)) e
    where
      own : IsOwn p.command (step_of w.config.roles.sizes (packets (history_of name w.run)) p)
      own = step_is_own w.config.roles.sizes (packets (history_of name w.run)) p

      said : (o : Option (Kind × Command)) → IfSome o (λ x. x.1 ≡ p.command) → option_map (said_at p) o ≡ Some m →
          m ≡ message_for s.1 m.kind
      said None is e = absurd cc
      said (Some x) is e =
          let same : said_at p x ≡ m = cc in
          let whole : said_at p x ≡ message_for s.1 x.0 = ap (λ c. said_at p (x.0, c)) is in
          subst (λ y. y ≡ message_for s.1 y.kind) same whole

      by : (o : Result Effect NodeFault) →
          sent_by_answer (answered o (reply_to w.config.roles name (history_of name w.run) (event.Take p))) ≡ Some m →
          m ≡ message_for s.1 m.kind
      by (Ok effect.Idle) e = absurd cc
      by (Ok effect.Counted) e = said _ own.broadcast e
      by (Err f) e = absurd cc

  said_are : (o : Option Message) → sends_at here p ≡ o →
      listed {A = Sent} (option_map (λ kind. (name, message_for s.1 kind)) (kind_of o))
      ≡ listed {A = Sent} (option_map (λ m. (name, m)) o)
  said_are None e = refl
  said_are (Some m) e =
      let one : Message → List Sent = λ x. (name, x) ∷ [] in
      ap one (sym (said_is_own m e))

  pub messages_are : (a c : Bool) → is_correct_in w name ≡ a → counts_now w.config w.run p ≡ c → (past : List Sent) →
      (o : Option NodeValue) → (a ≡ false → o ≡ None) → (a ≡ true → (node : NodeValue) × (o ≡ Some node)
      × (after_takes node past ≡ here)) →
      messages w.config (w.run ++ added w k)
      ≡ messages w.config w.run ++ noted_messages name s.1 (Some (mark_in o past s))
  messages_are false c correct counts past o none some =
      ap (λ r. messages w.config (w.run ++ r)) (added_is false c correct counts)
      ∙ ap (messages w.config) (append-nil w.run)
      ∙ sym (append-nil (messages w.config w.run))
      ∙ (λ i. messages w.config w.run ++ noted_messages name s.1 (Some (mark_in (sym (none refl) i) past s)))
  messages_are true c correct counts past o none some =
      let one = some refl in
      ap (λ r. messages w.config (w.run ++ r)) (added_is true c correct counts)
      ∙ by c
      ∙ ap (λ m. messages w.config w.run ++ noted_messages name s.1 (Some m)) (sym (mark_is c counts))
      ∙ (λ i. messages w.config w.run ++ noted_messages name s.1 (Some (mark_due (sym one.2 i) s)))
      ∙ (λ i. messages w.config w.run ++ noted_messages name s.1 (Some (mark_in (sym one.1 i) past s)))
    where
      by : (c : Bool) → messages w.config (w.run ++ (if c then pair_of p ∷ [] else []))
          ≡ messages w.config w.run
          ++ noted_messages name s.1 (Some (if c then Counted (kind_of (sends_at here p)) else Passed))
      by true = messages-push w.config w.run (pair_of p)
          ∙ ap (λ ms. messages w.config w.run ++ ms) (sym (said_are (sends_at here p) refl))
      by false = ap (messages w.config) (append-nil w.run) ∙ sym (append-nil (messages w.config w.run))

  -- its receiver has taken one more, and nobody else has
  pub own_history : (c : Bool) → is_correct_in w name ≡ true → counts_now w.config w.run p ≡ c → (node : NodeValue) →
      (past : List Sent) → after_takes node past ≡ here →
      history_of name (w.run ++ added w k) ≡ (after_take (after_takes node past) s).history
  own_history c correct counts node past same =
      ap (λ r. history_of name (w.run ++ r)) (added_is true c correct counts)
      ∙ by c ∙ ap (λ (n : NodeValue). n.history) (sym (after_is c counts))
      ∙ ap (λ n. (after_take n s).history) (sym same)
    where
      by : (c : Bool) → history_of name (w.run ++ (if c then pair_of p ∷ [] else []))
          ≡ (if c then with_event here (event.Take p) else here).history
      by true = history_of-push name (event.Take p) w.run
      by false = ap (history_of name) (append-nil w.run)

  pub other_history : (other : ℕ) → (name == other) ≡ false →
      history_of other (w.run ++ added w k) ≡ history_of other w.run
  other_history other apart' =
      ap (λ r. history_of other (w.run ++ r)) (added_is (is_correct_in w name) (counts_now w.config w.run p) refl refl)
      ∙ by (is_correct_in w name && counts_now w.config w.run p)
    where
      by : (b : Bool) → history_of other (w.run ++ (if b then pair_of p ∷ [] else [])) ≡ history_of other w.run
      by true = history_of-push_other other (pair_of p) w.run apart'
      by false = ap (history_of other) (append-nil w.run)

-- A block.

-- so many of the messages a node of this name has taken, when message `number` was given to all names below this one
abbrev pub given_to : ℕ → ℕ → Bool → ℕ
given_to most number before = min most (if before then number + 1 else number)

-- how far the marks of a block were put into their order
pub record Merged (w : WorldValue) (first count : ℕ) (block : List Sent) (marks : List Mark) (number name : ℕ)
    (order : List ℕ) (sent : List Sent) : Type 0 where
  pub run : Run
  pub order_is : order ≡ names run
  pub sent_is : sent ≡ messages w.config run
  pub each : (k : ℕ) → is_correct_in w k ≡ true →
      history_of k run
      ≡ (after_takes (node_in w k) (take (given_to (length marks - k * count) number (nat_lt k name)) block)).history
  pub prolonged : IsProlonged w (with_run w run)
  pub few : length sent ≤ length (messages w.config w.run) + (number * w.config.roles.sizes.nodes + name)
  pub due : length marks ≡ w.config.roles.sizes.nodes * count →
      with_run w run ≡ after_gives w (first * w.config.roles.sizes.nodes) (number * w.config.roles.sizes.nodes + name)

-- what is known of the block and of its marks
pub record IsMarked (w : WorldValue) (first count : ℕ) (block : List Sent) (marks : List Mark) : Type 0 where
  pub cluster : IsClusterRunOf w
  pub long : length block ≡ count
  pub block_is : (j : ℕ) (s : Sent) → slice_get block j ≡ Some s →
      slice_get (messages w.config w.run) (first + j) ≡ Some s
  pub room : (length (messages w.config w.run) + count * w.config.roles.sizes.nodes + 1) * w.config.roles.sizes.nodes
      ≤ w.config.limit
  pub mark : (name j : ℕ) (s : Sent) → slice_get block j ≡ Some s → name * count + j < length marks →
      slice_get marks (name * count + j) ≡ Some (mark_in (node_due w name) (take j block) s)

-- the pool has room before the last of them
not_full : (limit said nodes : ℕ) → (said + 1) * nodes ≤ limit → nat_lt limit (said * nodes + nodes) ≡ false
not_full limit said nodes h =
    let product : (said + 1) * nodes ≡ said * nodes + nodes = grind arith in
    let short : said * nodes + nodes ≤ limit = omega (arith, h, product) in
    grind (arith, nat_tests)

-- where a node had room for one message more, it took that; else it took none
given_stays : (most number : ℕ) → most ≤ number → given_to most number true ≡ given_to most number false
given_stays most number h = omega (arith, h)

given_grows : (most number : ℕ) → number < most → (given_to most number false ≡ number)
    × (given_to most number true ≡ number + 1)
given_grows most number h = (omega (arith, h), omega (arith, h))

take_more : (block : List Sent) (j : ℕ) (s : Sent) → slice_get block j ≡ Some s →
    take (j + 1) block ≡ take j block ++ s ∷ []
take_more [] j s at = absurd cc
take_more (x ∷ block) zero s at = let same : x ≡ s = cc in ap (λ y. y ∷ []) same
take_more (x ∷ block) (suc j) s at = ap (take-more-by x block) next ∙ ap (λ ys. x ∷ ys) (take_more block j s at)
  where
    take-more-by : Sent → List Sent → ℕ → List Sent
    take-more-by x block n = take n (x ∷ block)

    next : suc j + 1 ≡ suc (j + 1)
    next = omega arith

module _ (w : WorldValue) (first count : ℕ) (block : List Sent) (marks : List Mark)
    (is : IsMarked w first count block marks)
    (number name : ℕ) (s : Sent) (at : slice_get block number ≡ Some s) (inside : name < w.config.roles.sizes.nodes)
    (order : List ℕ) (sent : List Sent) (m : Merged w first count block marks number name order sent) where
  abbrev n : ℕ
  n = w.config.roles.sizes.nodes

  abbrev W : WorldValue
  W = with_run w m.run

  abbrev K : ℕ
  K = (first + number) * n + name

  number-below : number < count
  number-below = omega (arith, slice_get_within block number s at, is.long)

  cluster : IsClusterRunOf W
  cluster = prolonged_runs w W is.cluster m.prolonged

  more : Run
  more = m.prolonged.0

  run_is : m.run ≡ w.run ++ m.prolonged.0
  run_is = ap (λ (v : WorldValue). v.run) m.prolonged.1

  said_before : slice_get (messages w.config m.run) (first + number) ≡ Some s
  said_before =
      ap (λ r. slice_get (messages w.config r) (first + number)) run_is
      ∙ ap (λ ms. slice_get ms (first + number)) (messages-append w.config w.run m.prolonged.0)
      ∙ at_front (messages w.config w.run) _ (first + number) s (is.block_is number s at)

  there : Contains (messages w.config m.run) s
  there = contained (messages w.config m.run) (first + number) s said_before

  pooled : slice_get (pool w.config m.run) K ≡ Some (packet_of s.0 name s.1)
  unfolding pool
  pooled =
      packet_at n (messages w.config m.run) (first + number) name inside
      ∙ ap (option_map (λ (x : Sent). packet_of x.0 name x.1)) said_before

  room : is_pool_full W ≡ false
  room =
      let said : ℕ = length (messages w.config m.run) in
      let short : said ≤ length (messages w.config w.run) + (number * n + name) =
      omega (arith, m.few, ap length m.sent_is) in
      let rows : suc number * n ≤ count * n = mul-le-mul_right n (omega (arith, number-below)) in
      let product : suc number * n ≡ number * n + n = grind arith in
      let fits : (said + 1) * n ≤ (length (messages w.config w.run) + count * n + 1) * n =
      mul-le-mul_right n (omega (arith, short, rows, product, inside)) in
      ap (λ l. nat_lt w.config.limit (l + n)) (pool-length w.config m.run)
      ∙ not_full w.config.limit said n (omega (arith, fits, is.room))

  abbrev mark : Option Mark
  mark = mark_of_row marks count number name

  -- other nodes are where they were
  other_given : (k : ℕ) → (name == k) ≡ false → nat_lt k (name + 1) ≡ nat_lt k name
  other_given k apart' =
      ⊎_elim
      (λ (h : k < name).
      let now : nat_lt k (name + 1) ≡ true = grind (arith, nat_tests) in
      let was : nat_lt k name ≡ true = grind (arith, nat_tests) in
      now ∙ sym was)
      (λ (h : name ≤ k).
      let later : name < k = grind (arith, nat_tests) in
      let now : nat_lt k (name + 1) ≡ false = grind (arith, nat_tests) in
      let was : nat_lt k name ≡ false = grind (arith, nat_tests) in
      now ∙ sym was)
      (cases_lt k name)

  own_before : nat_lt name name ≡ false
  own_before = grind (arith, nat_tests)

  own_after : nat_lt name (name + 1) ≡ true
  own_after = grind (arith, nat_tests)

  abbrev most : ℕ → ℕ
  most k = length marks - k * count

  -- the message was not given to this node
  module _ (late : length marks ≤ name * count + number) where
    pub not_given : Merged w first count block marks number (name + 1) (order ++ noted_names name mark)
        (sent ++ noted_messages name s.1 mark)
    not_given =
        let none : mark ≡ None = slice_get_past marks (name * count + number) late in
        record {
          run = m.run;
          order_is = ap (λ o. order ++ noted_names name o) none ∙ append-nil order ∙ m.order_is;
          sent_is = ap (λ o. sent ++ noted_messages name s.1 o) none ∙ append-nil sent ∙ m.sent_is;
          each = λ k correct. by k correct (name == k) refl;
          prolonged = m.prolonged;
          few = omega (arith, m.few, ap length (ap (λ o. sent ++ noted_messages name s.1 o) none ∙ append-nil sent));
          due = λ all. absurd (all_given all);
        }
      where
        by : (k : ℕ) → is_correct_in w k ≡ true → (b : Bool) → (name == k) ≡ b →
            history_of k m.run
            ≡ (after_takes (node_in w k) (take (given_to (most k) number (nat_lt k (name + 1))) block)).history
        by k correct false other =
            m.each k correct
            ∙ ap (λ b. (after_takes (node_in w k) (take (given_to (most k) number b) block)).history)
            (sym (other_given k other))
        by k correct true own =
            let same : name ≡ k = exact_unsigned_eq name k own in
            let P : ℕ → Type 0 = λ j. history_of j m.run
            ≡ (after_takes (node_in w j) (take (given_to (most j) number (nat_lt j (name + 1))) block)).history in
            let C : ℕ → Type 0 = λ j. is_correct_in w j ≡ true in
            let few : most name ≤ number = omega (arith, late) in
            subst P same
            (m.each name (subst C (sym same) correct)
            ∙ ap (λ b. (after_takes (node_in w name) (take (given_to (most name) number b) block)).history) own_before
            ∙ ap (λ j. (after_takes (node_in w name) (take j block)).history) (sym (given_stays (most name) number few))
            ∙ ap (λ b. (after_takes (node_in w name) (take (given_to (most name) number b) block)).history)
            (sym own_after))

        all_given : length marks ≡ n * count → ⊥
        all_given all =
            let rows : suc name * count ≤ n * count = mul-le-mul_right count (omega (arith, inside)) in
            let product : suc name * count ≡ name * count + count = grind arith in
            omega (arith, all, late, rows, product, number-below)

  -- the message was given to this node
  module _ (early : name * count + number < length marks) where
    abbrev past : List Sent
    past = take number block

    abbrev run' : Run
    run' = m.run ++ added W K

    few_before : number < most name
    few_before = omega (arith, early)

    own_takes : is_correct_in w name ≡ true → after_takes (node_in w name) past ≡ node_in W name
    own_takes correct =
        takes_are w m.run name past
        (m.each name correct
        ∙ ap (λ b. (after_takes (node_in w name) (take (given_to (most name) number b) block)).history) own_before
        ∙ ap (λ j. (after_takes (node_in w name) (take j block)).history) (given_grows (most name) number few_before).0)

    none_due : is_correct_in w name ≡ false → node_due w name ≡ None
    none_due lies = ap (λ b. if b then Some (node_in w name) else None) lies

    some_due : is_correct_in w name ≡ true → (node : NodeValue) × (node_due w name ≡ Some node)
        × (after_takes node past ≡ node_in W name)
    some_due correct =
        (node_in w name, ap (λ b. if b then Some (node_in w name) else None) correct, own_takes correct)

    marked : mark ≡ Some (mark_in (node_due w name) past s)
    marked = is.mark name number s at early

    order_now : order ++ noted_names name mark ≡ names run'
    order_now =
        (λ i. m.order_is i ++ noted_names name (marked i))
        ∙ ap (λ ns. names m.run ++ ns)
        (names_are W cluster K name s there pooled room (is_correct_in w name)
        (counts_now w.config m.run (packet_of s.0 name s.1))
        refl refl past (node_due w name) none_due some_due)
        ∙ sym (names-append m.run (added W K))

    sent_now : sent ++ noted_messages name s.1 mark ≡ messages w.config run'
    sent_now =
        (λ i. m.sent_is i ++ noted_messages name s.1 (marked i))
        ∙ sym (messages_are W cluster K name s there pooled room (is_correct_in w name)
        (counts_now w.config m.run (packet_of s.0 name s.1)) refl refl past (node_due w name) none_due some_due)

    stepped : after_step W (Give K) ≡ with_run w run'
    stepped = after_where W (Give K) (arrival W (Give K)) refl

    each_now : (k : ℕ) → is_correct_in w k ≡ true → (b : Bool) → (name == k) ≡ b →
        history_of k run'
        ≡ (after_takes (node_in w k) (take (given_to (most k) number (nat_lt k (name + 1))) block)).history
    each_now k correct false other =
        other_history W cluster K name s there pooled room k other ∙ m.each k correct
        ∙ ap (λ b. (after_takes (node_in w k) (take (given_to (most k) number b) block)).history)
        (sym (other_given k other))
    each_now k correct true own =
        let same : name ≡ k = exact_unsigned_eq name k own in
        let P : ℕ → Type 0 = λ j. history_of j run'
        ≡ (after_takes (node_in w j) (take (given_to (most j) number (nat_lt j (name + 1))) block)).history in
        let C : ℕ → Type 0 = λ j. is_correct_in w j ≡ true in
        let correct' : C name = subst C (sym same) correct in
        subst P same
        (own_history W cluster K name s there pooled room (counts_now w.config m.run
        (packet_of s.0 name s.1)) correct' refl
        (node_in w name) past (own_takes correct')
        ∙ ap (λ (x : NodeValue). x.history) (sym (after_takes-push (node_in w name) past s))
        ∙ ap (λ xs. (after_takes (node_in w name) xs).history) (sym (take_more block number s at))
        ∙ ap (λ j. (after_takes (node_in w name) (take j block)).history)
        (sym (given_grows (most name) number few_before).1)
        ∙ ap (λ b. (after_takes (node_in w name) (take (given_to (most name) number b) block)).history) (sym own_after))

    pub was_given : Merged w first count block marks number (name + 1) (order ++ noted_names name mark)
        (sent ++ noted_messages name s.1 mark)
    was_given = record {
      run = run';
      order_is = order_now;
      sent_is = sent_now;
      each = λ k correct. each_now k correct (name == k) refl;
      prolonged = subst (IsProlonged w) stepped (prolonged_more w W (after_step W (Give K)) m.prolonged
          (give_prolongs W K));
      few = omega (arith, m.few, length-append sent (noted_messages name s.1 mark), few_messages name s.1 mark);
      due = λ all.
          let f : ℕ = first * n in
          let c : ℕ = number * n + name in
          let number_is : f + c ≡ K = grind arith in
          let next : number * n + (name + 1) ≡ c + 1 = omega arith in
          sym stepped ∙ ap (λ v. after_step v (Give K)) (m.due all)
          ∙ gives_next w f c K number_is ∙ ap (after_gives w f) (sym next);
    }

-- one mark more
merged_next : (w : WorldValue) (first count : ℕ) (block : List Sent) (marks : List Mark) →
    IsMarked w first count block marks → (number name : ℕ) (s : Sent) → slice_get block number ≡ Some s →
    name < w.config.roles.sizes.nodes → (order : List ℕ) (sent : List Sent) →
    Merged w first count block marks number name order sent →
    Merged w first count block marks number (name + 1)
    (order ++ noted_names name (mark_of_row marks count number name))
    (sent ++ noted_messages name s.1 (mark_of_row marks count number name))
merged_next w first count block marks is number name s at inside order sent m =
    ⊎_elim
    (λ (early : name * count + number < length marks).
    was_given w first count block marks is number name s at inside order sent m early)
    (λ (late : length marks ≤ name * count + number).
    not_given w first count block marks is number name s at inside order sent m late)
    (cases_lt (name * count + number) (length marks))

-- a message's marks
merged_row : (w : WorldValue) (first count : ℕ) (block : List Sent) (marks : List Mark) →
    IsMarked w first count block marks → (number : ℕ) (s : Sent) → slice_get block number ≡ Some s →
    (order : List ℕ) (sent : List Sent) → Merged w first count block marks number 0 order sent →
    (name : ℕ) → name ≤ w.config.roles.sizes.nodes →
    Merged w first count block marks number name (order ++ row_names (mark_of_row marks count number) name)
    (sent ++ row_messages (mark_of_row marks count number) s.1 name)
merged_row w first count block marks is number s at order sent m zero few =
    let at_each = mark_of_row marks count number in
    let M : List ℕ → List Sent → Type 0 = λ o x. Merged w first count block marks number 0 o x in
    let o : order ≡ order ++ row_names at_each 0 = sym (ap (λ ns. order ++ ns) (row_names-none at_each)
    ∙ append-nil order) in
    let x : sent ≡ sent ++ row_messages at_each s.1 0 =
    sym (ap (λ ms. sent ++ ms) (row_messages-none at_each s.1) ∙ append-nil sent) in
    subst (M (order ++ row_names at_each 0)) x (subst (λ ns. M ns sent) o m)
merged_row w first count block marks is number s at order sent m (suc name) few =
    let at_each = mark_of_row marks count number in
    let before = merged_row w first count block marks is number s at order sent m name (omega (arith, few)) in
    let next = merged_next w first count block marks is number name s at (omega (arith, few)) _ _ before in
    let said : List Sent = (sent ++ row_messages at_each s.1 name) ++ noted_messages name s.1 (at_each name) in
    let o : (order ++ row_names at_each name) ++ noted_names name (at_each name) ≡ order ++ row_names at_each
    (name + 1) =
    append_assoc order (row_names at_each name) _ ∙ ap (λ ns. order ++ ns) (sym (row_names-next at_each name)) in
    let x : (sent ++ row_messages at_each s.1 name) ++ noted_messages name s.1 (at_each name)
    ≡ sent ++ row_messages at_each s.1 (name + 1) =
    append_assoc sent (row_messages at_each s.1 name) _ ∙ ap (λ ms. sent ++ ms)
    (sym (row_messages-next at_each s.1 name)) in
    let M : List ℕ → List Sent → Type 0 = λ o' x'. Merged w first count block marks number (name + 1) o' x' in
    let moved : M (order ++ row_names at_each (name + 1)) (sent ++ row_messages at_each s.1 (name + 1)) =
    subst (M (order ++ row_names at_each (name + 1))) x (subst (λ ns. M ns said) o next) in
    let same : name + 1 ≡ suc name = omega arith in
    subst (λ k. Merged w first count block marks number k (order ++ row_names at_each k)
    (sent ++ row_messages at_each s.1 k))
    same moved

-- .. of all nodes
merged_whole : (w : WorldValue) (first count : ℕ) (block : List Sent) (marks : List Mark) (number : ℕ) (order : List ℕ)
    (sent : List Sent) → Merged w first count block marks number w.config.roles.sizes.nodes order sent →
    Merged w first count block marks (number + 1) 0 order sent
merged_whole w first count block marks number order sent m =
    let n : ℕ = w.config.roles.sizes.nodes in
    let index : (number + 1) * n + 0 ≡ number * n + n = grind arith in
    record {
      run = m.run;
      order_is = m.order_is;
      sent_is = m.sent_is;
      each = λ k correct.
          let node : k < n = correct_is_node w.config.roles.sizes w.liars k correct in
          let was : nat_lt k n ≡ true = grind (arith, nat_tests) in
          let now : nat_lt k 0 ≡ false = grind (arith, nat_tests) in
          m.each k correct
          ∙ ap (λ b. (after_takes (node_in w k) (take (given_to
          (length marks - k * count) number b) block)).history) was
          ∙ ap (λ b. (after_takes (node_in w k) (take (given_to (length marks - k * count)
          (number + 1) b) block)).history)
          (sym now);
      prolonged = m.prolonged;
      few = omega (arith, m.few, index);
      due = λ all. m.due all ∙ ap (after_gives w (first * n)) (sym index);
    }

pub merged_block : (w : WorldValue) (first count : ℕ) (block : List Sent) (marks : List Mark) →
    IsMarked w first count block marks → (behind : List Sent) →
    ((j : ℕ) (s : Sent) → slice_get block j ≡ Some s → slice_get behind j ≡ Some s) →
    (order : List ℕ) (sent : List Sent) → Merged w first count block marks 0 0 order sent →
    (number : ℕ) → number ≤ count →
    Merged w first count block marks number 0
    (order ++ block_names marks count w.config.roles.sizes.nodes number)
    (sent ++ block_messages marks behind count w.config.roles.sizes.nodes number)
merged_block w first count block marks is behind same order sent m zero few =
    let n : ℕ = w.config.roles.sizes.nodes in
    let M : List ℕ → List Sent → Type 0 = λ o x. Merged w first count block marks 0 0 o x in
    let o : order ≡ order ++ block_names marks count n 0 =
    sym (ap (λ ns. order ++ ns) (block_names-none marks count n) ∙ append-nil order) in
    let x : sent ≡ sent ++ block_messages marks behind count n 0 =
    sym (ap (λ ms. sent ++ ms) (block_messages-none marks behind count n) ∙ append-nil sent) in
    subst (M (order ++ block_names marks count n 0)) x (subst (λ ns. M ns sent) o m)
merged_block w first count block marks is behind same order sent m (suc number) few =
    let n : ℕ = w.config.roles.sizes.nodes in
    let row = mark_of_row marks count number in
    let names_before = block_names marks count n number in
    let said_before = block_messages marks behind count n number in
    let before = merged_block w first count block marks is behind same order sent m number (omega (arith, few)) in
    let one = some_within block number (omega (arith, few, is.long)) in
    let all = merged_row w first count block marks is number one.0 one.1 _ _ before n (omega arith) in
    let next = merged_whole w first count block marks number _ _ all in
    let said : List Sent = (sent ++ said_before) ++ row_messages row one.0.1 n in
    let o : (order ++ names_before) ++ row_names row n ≡ order ++ block_names marks count n (number + 1) =
    append_assoc order names_before _ ∙ ap (λ ns. order ++ ns) (sym (block_names-next marks count n number)) in
    let x : (sent ++ said_before) ++ row_messages row one.0.1 n ≡ sent ++ block_messages marks behind count n
    (number + 1) =
    append_assoc sent said_before _
    ∙ ap (λ ms. sent ++ ms)
    (sym (block_messages-next marks behind count n number one.0 (same number one.0 one.1))) in
    let M : List ℕ → List Sent → Type 0 = λ o' x'. Merged w first count block marks (number + 1) 0 o' x' in
    let moved : M (order ++ block_names marks count n (number + 1))
    (sent ++ block_messages marks behind count n (number + 1)) =
    subst (M (order ++ block_names marks count n (number + 1))) x (subst (λ ns. M ns said) o next) in
    let same' : number + 1 ≡ suc number = omega arith in
    subst (λ k. Merged w first count block marks k 0 (order ++ block_names marks count n k)
    (sent ++ block_messages marks behind count n k)) same' moved

-- before any mark
pub merged_none : (w : WorldValue) (first count : ℕ) (block : List Sent) (marks : List Mark) →
    Merged w first count block marks 0 0 (names w.run) (messages w.config w.run)
merged_none w first count block marks =
    let n : ℕ = w.config.roles.sizes.nodes in
    let index : 0 * n + 0 ≡ 0 = omega arith in
    record {
      run = w.run;
      order_is = refl;
      sent_is = refl;
      each = λ k correct.
          let before : nat_lt k 0 ≡ false = grind (arith, nat_tests) in
          let none : min (length marks - k * count) 0 ≡ 0 = omega arith in
          ap (λ (x : NodeValue). x.history) (sym (after_takes-none (node_in w k)))
          ∙ ap (λ j. (after_takes (node_in w k) (take j block)).history) (sym none)
          ∙ ap (λ b. (after_takes (node_in w k) (take (given_to (length marks - k * count) 0 b) block)).history)
          (sym before);
      prolonged = prolonged_none w;
      few = omega arith;
      due = λ all. sym (after_steps-none w) ∙ ap (after_gives w (first * n)) (sym index);
    }
