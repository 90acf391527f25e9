-- Runs that go on by packets of the pool alone: each adds to what is recorded about its place, which is bounded.
use Rattle.std.proofs.Common.{◌≡◌, ℕ, zero, suc, ◌+◌, ◌*◌, ◌<◌, ◌≤◌, ⊎_elim, List, [], ◌∷◌, ◌++◌, length, take}
use Rattle.std.proofs.Common.{Option, Some, None, refl, sym, ap, ◌∙◌, subst, append-nil, append_assoc}
use Rattle.std.proofs.Common.{length-append, arith}
use Rattle.std.specs.Prelude.{true, Contains, option_map}
use Rattle.std.proofs.Math.Seq.{take-append_seam}
use Rattle.std.proofs.lemmas.Bool.{cases_lt}
use Rattle.std.proofs.lemmas.List.Elements.{Contains-append_cases}
use Rattle.quorum_sizes.specs.Sizes.{Counts}
use Rattle.quorum_sizes.specs.NodeSets.{Nodes}
use Rattle.link_frames.specs.frames.Packets.{PacketValue, IsSound, packet_of, message_of}
use Rattle.link_frames.specs.declared.frames.kind.Kind.{Kind}
use Rattle.link_frames.specs.declared.frames.packet.Message.{Message}
use Rattle.role_commands.specs.declared.command.Command.{Command}
use Rattle.bracha_instance.specs.Broadcast.{Take}
use Rattle.bracha_instance.specs.declared.instance.Effect.{Effect}
use Rattle.bracha_instance.specs.declared.instance.Effect.TheVariants as effect
use Rattle.owner_streams.proofs.Exported.{takes_at-own}
use Rattle.owner_streams.specs.Places.{window, take_of, takes_at}
use Rattle.role_node.proofs.Exported.{packets-Take}
use Rattle.role_node.specs.Answers.{outlook, answered, answer_due, reply_to, said_at, sent_by_answer}
use Rattle.role_node.specs.Configs.{ConfigValue}
use Rattle.role_node.specs.Histories.{packets}
use Rattle.role_node.specs.Work.{most_at_place}
use Rattle.role_node.specs.declared.event.Event.{Event}
use Rattle.role_node.specs.declared.event.Event.TheVariants as event
use Rattle.role_node.specs.declared.faults.NodeFault.{NodeFault}
use Rattle.std.specs.Prelude.{Result, Ok, Err}
use Rattle.byz_world.specs.Runs.{reach_of}
use Rattle.byz_world.specs.Pools.{Sent, sends_next, listed, messages, packets_of, pool}
use Rattle.byz_world.specs.Giving.{IsGivable, IsProlongation, IsPoolBelow, most_work}
use Rattle.byz_world.specs.Progress.{WorkIsBounded}
use Rattle.byz_world.specs.Runs.{Run, history_of, has_sent, IsClusterRun}
use Rattle.byz_world.proofs.Elements.{contains_flat, flat_contains, contains_listed, number_of}
use Rattle.byz_world.proofs.Growing.{cluster_run_push}
use Rattle.byz_world.proofs.Histories.{taken_by, taken_front}
use Rattle.byz_world.proofs.Pooled.{number_in, to_each, pooled_is_sent}
use Rattle.byz_world.proofs.Progress.{taken_within, owned}
use Rattle.byz_world.proofs.Pushing.{history_of-push, messages-push}
use Rattle.byz_world.proofs.Sound.{pooled_is_sound}
use Rattle.byz_world.proofs.Telling.{nodes_are}
use Rattle.byz_world.proofs.Work.{few_at_place}

-- Sums.

pub total : (ℕ → ℕ) → ℕ → ℕ
total f zero = 0
total f (suc n) = f n + total f n

pub total_most : (f : ℕ → ℕ) (n most : ℕ) → ((k : ℕ) → f k ≤ most) → total f n ≤ n * most
unfolding total
total_most f zero most each = omega arith
total_most f (suc n) most each =
    let one = each n in
    let rest = total_most f n most each in
    let product : suc n * most ≡ most + n * most = grind arith in
    omega (arith, one, rest, product)

pub total_keeps : (f g : ℕ → ℕ) (n : ℕ) → ((k : ℕ) → f k ≤ g k) → total f n ≤ total g n
unfolding total
total_keeps f g zero keeps = omega arith
total_keeps f g (suc n) keeps = omega (arith, keeps n, total_keeps f g n keeps)

pub total_more : (f g : ℕ → ℕ) (n k : ℕ) → ((k : ℕ) → f k ≤ g k) → k < n → f k + 1 ≤ g k → total f n + 1 ≤ total g n
unfolding total
total_more f g zero k keeps h more = absurd (omega (arith, h))
total_more f g (suc n) k keeps h more =
    ⊎_elim
    (λ (early : k < n). omega (arith, keeps n, total_more f g n k keeps early more))
    (λ (late : n ≤ k).
    let last : k ≡ n = omega (arith, h, late) in
    let P : ℕ → Type 0 = λ m. f m + 1 ≤ g m in
    let here : f n + 1 ≤ g n = subst P last more in
    omega (arith, here, total_keeps f g n keeps))
    (cases_lt k n)

-- What was recorded about all places before one, of all owners at all nodes.

abbrev at_node : Run → ℕ → ℕ → ℕ → ℕ
at_node run node owner places = total (λ place. length (taken_by run node owner place)) places

abbrev of_owners : Run → ℕ → ℕ → ℕ → ℕ
of_owners run node nodes places = total (λ owner. at_node run node owner places) nodes

abbrev work : Run → ℕ → ℕ → ℕ
work run nodes places = total (λ node. of_owners run node nodes places) nodes

work_most : (config : ConfigValue) (liars : Nodes) (run : Run) (places : ℕ) → IsClusterRun config liars run →
    work run config.roles.sizes.nodes places ≤ most_work config.roles.sizes places
work_most config liars run places cluster =
    let s : Counts = config.roles.sizes in
    total_most (λ node. of_owners run node s.nodes places) s.nodes (s.nodes * (places * most_at_place s))
    (λ node. total_most (λ owner. at_node run node owner places) s.nodes (places * most_at_place s)
    (λ owner. total_most (λ place. length (taken_by run node owner place)) places (most_at_place s)
    (λ place. few_at_place config liars run node owner place cluster)))

pub longer : (run : Run) (pair : ℕ × Event) (node owner place : ℕ) →
    length (taken_by run node owner place) ≤ length (taken_by (run ++ pair ∷ []) node owner place)
longer run pair node owner place =
    let whole : Run = run ++ pair ∷ [] in
    let front = taken_front (length run) whole node owner place in
    let same : take (length run) whole ≡ run = take-append_seam run (pair ∷ []) in
    let before : List Take = taken_by (take (length run) whole) node owner place in
    let long : length (taken_by whole node owner place) ≡ length before + length front.0 =
    ap length front.1 ∙ length-append before front.0 in
    let short : length before ≡ length (taken_by run node owner place) =
    ap (λ r. length (taken_by r node owner place)) same in
    omega (arith, long, short)

longer_there : (run : Run) (p : PacketValue) →
    length (taken_by run p.to p.owner p.place) + 1
    ≤ length (taken_by (run ++ (p.to, event.Take p) ∷ []) p.to p.owner p.place)
longer_there run p =
    let past : List Event = history_of p.to run in
    let is : taken_by (run ++ (p.to, event.Take p) ∷ []) p.to p.owner p.place
    ≡ taken_by run p.to p.owner p.place ++ take_of p ∷ [] =
    ap (λ h. takes_at p.owner p.place (packets h)) (history_of-push p.to (event.Take p) run)
    ∙ ap (takes_at p.owner p.place) (packets-Take past p) ∙ takes_at-own (packets past) p in
    let long = ap length is ∙ length-append (taken_by run p.to p.owner p.place) (take_of p ∷ []) in
    omega (arith, long)

work_more : (run : Run) (p : PacketValue) (nodes places : ℕ) → p.to < nodes → p.owner < nodes → p.place < places →
    work run nodes places + 1 ≤ work (run ++ (p.to, event.Take p) ∷ []) nodes places
work_more run p nodes places to owner place =
    let pair : ℕ × Event = (p.to, event.Take p) in
    let run' : Run = run ++ pair ∷ [] in
    let at : (node own : ℕ) → at_node run node own places ≤ at_node run' node own places =
    λ node own. total_keeps _ _ places (λ k. longer run pair node own k) in
    let of_all : (node : ℕ) → of_owners run node nodes places ≤ of_owners run' node nodes places =
    λ node. total_keeps _ _ nodes (at node) in
    total_more (λ node. of_owners run node nodes places) (λ node. of_owners run' node nodes places) nodes p.to of_all to
    (total_more (λ own. at_node run p.to own places) (λ own. at_node run' p.to own places) nodes p.owner (at p.to) owner
    (total_more (λ k. length (taken_by run p.to p.owner k)) (λ k. length (taken_by run' p.to p.owner k)) places p.place
    (λ k. longer run pair p.to p.owner k) place (longer_there run p)))

-- Places of the pool.

abbrev AreSentBelow : ConfigValue → Run → ℕ → Type 0
AreSentBelow config run places = (sent : Sent) → Contains (messages config run) sent → sent.1.place < places

below_sent : (config : ConfigValue) (run : Run) (places : ℕ) → 0 < config.roles.sizes.nodes →
    IsPoolBelow config run places → AreSentBelow config run places
unfolding pool
below_sent config run places some pooled sent there =
    pooled (packet_of sent.0 0 sent.1)
    (flat_contains (packets_of config.roles.sizes.nodes) (messages config run) sent (packet_of sent.0 0 sent.1) there
    (to_each sent.0 0 config.roles.sizes.nodes sent.1 some))

pub below_pooled : (config : ConfigValue) (run : Run) (places : ℕ) → AreSentBelow config run places →
    IsPoolBelow config run places
unfolding pool
below_pooled config run places sent p there =
    let found = contains_flat (packets_of config.roles.sizes.nodes) (messages config run) p there in
    let at = number_of (packets_of config.roles.sizes.nodes found.0) p found.2 in
    let is = number_in config.roles.sizes.nodes found.0 at.0 p at.1 in
    let P : ℕ → Type 0 = λ k. k < places in
    subst P (ap (λ (q : PacketValue). q.place) is.1) (sent found.0 found.1)

sent_by_taken : (config : ConfigValue) (me : ℕ) (past : List Event) (p : PacketValue) (m : Message) →
    sent_by_answer (answer_due config me past (event.Take p)) ≡ Some m → m.place ≡ p.place
sent_by_taken config me past p m e = by (outlook config me past (event.Take p)) e
  where
    same_place : (o : Option (Kind × Command)) → option_map (said_at p) o ≡ Some m → m.place ≡ p.place
    same_place None is = absurd cc
    same_place (Some said) is = let same : said_at p said ≡ m = cc in sym (ap (λ (x : Message). x.place) same)

    by : (o : Result Effect NodeFault) →
        sent_by_answer (answered o (reply_to config.roles me past (event.Take p))) ≡ Some m → m.place ≡ p.place
    by (Ok effect.Idle) is = absurd cc
    by (Ok effect.Counted) is = same_place _ is
    by (Err f) is = absurd cc

sent_next : (config : ConfigValue) (run : Run) (p : PacketValue) (places : ℕ) (sent : Sent) → p.place < places →
    sends_next config run (p.to, event.Take p) ≡ Some sent → sent.1.place < places
sent_next config run p places sent place e =
    let m = by (sent_by_answer (answer_due config p.to (history_of p.to run) (event.Take p))) e in
    omega (arith, sent_by_taken config p.to (history_of p.to run) p sent.1 m, place)
  where
    by : (o : Option Message) → option_map (λ x. (p.to, x)) o ≡ Some sent → o ≡ Some sent.1
    by None is = absurd cc
    by (Some x) is = let same : (p.to, x) ≡ sent = cc in ap (λ y. Some y.1) same

-- what a packet of the pool has its receiver send is about its own place
below_next : (config : ConfigValue) (run : Run) (p : PacketValue) (places : ℕ) → p.place < places →
    AreSentBelow config run places → AreSentBelow config (run ++ (p.to, event.Take p) ∷ []) places
below_next config run p places place was sent there =
    let next = sends_next config run (p.to, event.Take p) in
    let C : List Sent → Type 0 = λ ms. Contains ms sent in
    ⊎_elim
    (λ (early : Contains (messages config run) sent). was sent early)
    (λ (late : Contains (listed next) sent).
    sent_next config run p places sent place (contains_listed next sent late))
    (Contains-append_cases (messages config run) (listed next) sent
    (subst C (messages-push config run (p.to, event.Take p)) there))

-- A packet more, and all of them.

pub given_is_run : (config : ConfigValue) (liars : Nodes) (run : Run) (p : PacketValue) →
    IsClusterRun config liars run → IsGivable config liars run p →
    IsClusterRun config liars (run ++ (p.to, event.Take p) ∷ [])
given_is_run config liars run p cluster givable =
    let was = pooled_is_sent config liars run p cluster givable.sent in
    cluster_run_push config liars run p.to (event.Take p) cluster
    (record {
      correct = givable.to;
      sound = λ q same. subst IsSound (same_take p q same) (pooled_is_sound config liars run cluster p givable.sent);
      links = λ q same _. subst (λ (x : PacketValue). has_sent config.roles.sizes run x.from (message_of x) ≡ true)
          (same_take p q same) was.sent;
    })
    givable.counts
  where
    same_take : (p q : PacketValue) → event.Take p ≡ event.Take q → p ≡ q
    same_take p q e = cc

pub first_given : (config : ConfigValue) (liars : Nodes) (run more : Run) (pair : ℕ × Event) →
    IsProlongation config liars run (pair ∷ more) →
    (p : PacketValue) × IsGivable config liars run p × (pair ≡ (p.to, event.Take p))
first_given config liars run more pair prolongs =
    let one = prolongs 0 pair refl in
    (one.0, subst (λ r. IsGivable config liars r one.0) (append-nil run) one.1, one.2)

pub rest_given : (config : ConfigValue) (liars : Nodes) (run more : Run) (pair : ℕ × Event) →
    IsProlongation config liars run (pair ∷ more) → IsProlongation config liars (run ++ pair ∷ []) more
rest_given config liars run more pair prolongs t next at =
    let one = prolongs (suc t) next at in
    let split : run ++ pair ∷ take t more ≡ (run ++ pair ∷ []) ++ take t more =
    sym (append_assoc run (pair ∷ []) (take t more)) in
    (one.0, subst (λ r. IsGivable config liars r one.0) split one.1, one.2)

pub prolonged_is_run : (config : ConfigValue) (liars : Nodes) (run more : Run) → IsClusterRun config liars run →
    IsProlongation config liars run more → IsClusterRun config liars (run ++ more)
prolonged_is_run config liars run [] cluster prolongs = subst (IsClusterRun config liars) (sym (append-nil run)) cluster
prolonged_is_run config liars run (pair ∷ more) cluster prolongs =
    let one = first_given config liars run more pair prolongs in
    let C : Run → Type 0 = IsClusterRun config liars in
    let next : C (run ++ pair ∷ []) =
    subst (λ x. C (run ++ x ∷ [])) (sym one.2) (given_is_run config liars run one.0 cluster one.1) in
    subst C (append_assoc run (pair ∷ []) more)
    (prolonged_is_run config liars (run ++ pair ∷ []) more next (rest_given config liars run more pair prolongs))

prolonged_work : (config : ConfigValue) (liars : Nodes) (run more : Run) (places : ℕ) → IsClusterRun config liars run →
    AreSentBelow config run places → IsProlongation config liars run more →
    work run config.roles.sizes.nodes places + length more ≤ most_work config.roles.sizes places
prolonged_work config liars run [] places cluster below prolongs =
    omega (arith, work_most config liars run places cluster)
prolonged_work config liars run (pair ∷ more) places cluster below prolongs =
    let s : Counts = config.roles.sizes in
    let one = first_given config liars run more pair prolongs in
    let p : PacketValue = one.0 in
    let was = pooled_is_sent config liars run p cluster one.1.sent in
    let place : p.place < places = below_pooled config run places below p one.1.sent in
    let C : Run → Type 0 = IsClusterRun config liars in
    let next : C (run ++ pair ∷ []) =
    subst (λ x. C (run ++ x ∷ [])) (sym one.2) (given_is_run config liars run p cluster one.1) in
    let B : ℕ × Event → Type 0 = λ x. AreSentBelow config (run ++ x ∷ []) places in
    let below' : B pair = subst B (sym one.2) (below_next config run p places place below) in
    let W : ℕ × Event → Type 0 = λ x. work run s.nodes places + 1 ≤ work (run ++ x ∷ []) s.nodes places in
    let more_work : W pair =
    subst W (sym one.2) (work_more run p s.nodes places was.to (owned config liars run cluster p was) place) in
    let rest = prolonged_work config liars (run ++ pair ∷ []) more places next below'
    (rest_given config liars run more pair prolongs) in
    omega (arith, more_work, rest)

none_past : (takes : List Take) (place end : ℕ) → ((takes ≡ [] → ⊥) → place < end) → end ≤ place → takes ≡ []
none_past [] place end within past = refl
none_past (t ∷ takes) place end within past = absurd (omega (arith, within (λ e. cc), past))

pub work_is_bounded : WorkIsBounded
work_is_bounded config liars run cluster = record {
  at_place = λ node owner place. few_at_place config liars run node owner place cluster;
  none_beyond = λ node owner place past.
      none_past (taken_by run node owner place) place (reach_of config run node owner + window)
      (taken_within config liars run cluster node owner place) past;
}

pub prolonging_ends : (config : ConfigValue) (liars : Nodes) (run more : Run) (places : ℕ) →
    IsClusterRun config liars run → IsPoolBelow config run places → IsProlongation config liars run more →
    length more ≤ most_work config.roles.sizes places
prolonging_ends config liars run more places cluster below prolongs =
    let work_done = prolonged_work config liars run more places cluster
    (below_sent config run places (nodes_are config liars run cluster) below) prolongs in
    omega (arith, work_done)
