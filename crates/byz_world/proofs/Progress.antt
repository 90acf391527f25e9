-- What a node has sent is before the end of its own window, and what is before the end of its receiver's is open there.
use Rattle.std.proofs.Common.{◌≡◌, ℕ, zero, suc, ◌+◌, ◌<◌, ◌≤◌, ◌⊎◌, inl, inr, ⊎_elim, Bool, true, false, ◌==◌}
use Rattle.std.proofs.Common.{List, [], ◌∷◌, ◌++◌, length, Some, None, Result, Ok, refl, sym, ap}
use Rattle.std.proofs.Common.{◌∙◌, subst, length-append, arith}
use Rattle.std.specs.Prelude.{if◌then◌else◌, nat_le, slice_get, Contains}
use Rattle.std.proofs.lemmas.Bool.{and_from, cases_lt, lt-ltb}
use Rattle.std.proofs.lemmas.Bool.Decides.{nat_tests}
use Rattle.std.proofs.lemmas.Option.{slice_get_within}
use Rattle.quorum_sizes.specs.Sizes.{Counts}
use Rattle.quorum_sizes.specs.NodeSets.{Nodes}
use Rattle.role_commands.proofs.Exported.{if_some}
use Rattle.role_commands.specs.declared.command.Command.{Command}
use Rattle.link_frames.specs.frames.Packets.{PacketValue, message_of}
use Rattle.link_frames.specs.declared.frames.kind.Kind.{Kind}
use Rattle.link_frames.specs.declared.frames.kind.Kind.TheVariants.{Send, Echo, Ready}
use Rattle.bracha_instance.specs.Broadcast.{echoed, readied}
use Rattle.bracha_instance.specs.declared.instance.Effect.{Effect}
use Rattle.bracha_instance.specs.declared.instance.Effect.TheVariants as effect
use Rattle.owner_streams.proofs.Exported.{stream_grows_lem, echoed-none, readied-none}
use Rattle.owner_streams.specs.Places.{window, stream, reach}
use Rattle.role_node.proofs.Exported.{along_legal, issued-none, issued-Issue, issued-Take, issued-Client}
use Rattle.role_node.proofs.Exported.{packets-Issue, packets-Take, packets-Client}
use Rattle.role_node.specs.Access.{reach_at}
use Rattle.role_node.specs.Answers.{unless_full, or_counted, issue_fault}
use Rattle.role_node.specs.Answers.{reply_to, answer_due, is_recorded, IsLegal}
use Rattle.role_node.specs.Configs.{ConfigValue}
use Rattle.role_node.specs.Histories.{issued, packets}
use Rattle.role_node.specs.declared.event.Event.{Event}
use Rattle.role_node.specs.declared.event.Event.TheVariants as event
use Rattle.role_node.specs.declared.faults.NodeFault.{NodeFault}
use Rattle.role_node.specs.declared.faults.NodeFault.TheVariants as fault
use Rattle.byz_world.specs.Runs.{reach_of}
use Rattle.byz_world.specs.Pools.{pool, WasSent}
use Rattle.byz_world.specs.Runs.{Run, history_of, is_correct, IsClusterRun}
use Rattle.byz_world.proofs.Histories.{taken_by, some_taken}
use Rattle.byz_world.proofs.Idle.{IsOpen, counted_early, taken_is_open}
use Rattle.byz_world.proofs.Pooled.{has_sent_is, pooled_is_sent}
use Rattle.byz_world.proofs.Sound.{pooled_is_sound}
use Rattle.byz_world.proofs.Telling.{foreign_is_unsent, correct_is_node}
use Rattle.byz_world.proofs.Votes.{said_by}

-- What counts, and what is full.

pub effect_cases : (e : Effect) → (e ≡ effect.Idle) ⊎ (e ≡ effect.Counted)
effect_cases effect.Idle = inl refl
effect_cases effect.Counted = inr refl

pub roomy : (full : Bool) (e : Effect) → full ≡ false → unless_full full (Ok e) ≡ Ok e
roomy full effect.Idle spare = refl
roomy full effect.Counted spare = ap (λ b. unless_full b (Ok effect.Counted)) spare

pub not_full : (limit count : ℕ) → count < limit → nat_le limit count ≡ false
not_full limit count h = grind (arith, nat_tests)

-- How far ahead of its own stream a node issues.

below : (a b : ℕ) → nat_le a b ≡ false → b < a
below a b e = grind (arith, nat_tests)

unrefused : (mine stream_full busy : Bool) →
    ◌≡◌ {A = Result Effect NodeFault}
    (or_counted (if mine then Some fault.NotMine else (if stream_full then Some fault.StreamFull
    else (if busy then Some fault.Busy else None))))
    (Ok effect.Counted) → busy ≡ false
unrefused true stream_full busy e = absurd cc
unrefused false true busy e = absurd cc
unrefused false false true e = absurd cc
unrefused false false false e = refl

-- where a command is issued, the window has a place for it
issue_has_place : (config : ConfigValue) (me : ℕ) (past : List Event) (c : Command) →
    is_recorded (answer_due config me past (event.Issue c)) ≡ true →
    length (issued past) < reach_at config.roles.sizes past me + window
issue_has_place config me past c recorded =
    let early : or_counted (issue_fault config.roles me past c) ≡ Ok effect.Counted =
    counted_early (nat_le config.limit (length past)) (or_counted (issue_fault config.roles me past c))
    (reply_to config.roles me past (event.Issue c)) recorded in
    below _ _ (unrefused _ _ _ early)

pub reach_grows : (s : Counts) (owner : ℕ) (before later : List PacketValue) →
    reach s owner before ≤ reach s owner (before ++ later)
reach_grows s owner before later =
    let grows = stream_grows_lem s owner before later in
    let more : reach s owner (before ++ later) ≡ reach s owner before + length grows.0 =
    ap length (sym grows.1) ∙ length-append (stream s owner before) grows.0 in
    omega (arith, more)

abbrev IssuesWithin : Counts → ℕ → List Event → Type 0
IssuesWithin s me history = length (issued history) ≤ reach_at s history me + window

within_next : (config : ConfigValue) (me : ℕ) (past : List Event) (e : Event) →
    is_recorded (answer_due config me past e) ≡ true → IssuesWithin config.roles.sizes me past →
    IssuesWithin config.roles.sizes me (past ++ e ∷ [])
within_next config me past (event.Issue c) recorded was =
    let s : Counts = config.roles.sizes in
    let place = issue_has_place config me past c recorded in
    let more : length (issued (past ++ event.Issue c ∷ [])) ≡ length (issued past) + 1 =
    ap length (issued-Issue past c) ∙ length-append (issued past) (c ∷ []) in
    let same : reach_at s (past ++ event.Issue c ∷ []) me ≡ reach_at s past me =
    ap (reach s me) (packets-Issue past c) in
    omega (arith, place, more, same)
within_next config me past (event.Take p) recorded was =
    let s : Counts = config.roles.sizes in
    let same : length (issued (past ++ event.Take p ∷ [])) ≡ length (issued past) = ap length (issued-Take past p) in
    let after : reach_at s (past ++ event.Take p ∷ []) me ≡ reach s me (packets past ++ p ∷ []) =
    ap (reach s me) (packets-Take past p) in
    omega (arith, was, same, after, reach_grows s me (packets past) (p ∷ []))
within_next config me past (event.Client act) recorded was =
    let s : Counts = config.roles.sizes in
    let same : length (issued (past ++ event.Client act ∷ [])) ≡ length (issued past) =
    ap length (issued-Client past act) in
    let after : reach_at s (past ++ event.Client act ∷ []) me ≡ reach_at s past me =
    ap (reach s me) (packets-Client past act) in
    omega (arith, was, same, after)

-- a node has issued no more than the window beyond the reach of its own stream
pub issues_within : (config : ConfigValue) (me : ℕ) (history : List Event) → IsLegal config me history →
    length (issued history) ≤ reach_at config.roles.sizes history me + window
issues_within config me history legal =
    along_legal config me (IssuesWithin config.roles.sizes me) (within_next config me) [] history legal
    (omega (arith, ap length issued-none))

-- What a node has sent about a place is before the end of its own window.

pub some_within : {A : Type 0} (xs : List A) (k : ℕ) → k < length xs → (x : A) × (slice_get xs k ≡ Some x)
some_within [] k h = absurd (omega (arith, h))
some_within (x ∷ xs) zero h = (x, refl)
some_within (x ∷ xs) (suc k) h = some_within xs k (omega (arith, h))

module _ (config : ConfigValue) (liars : Nodes) (run : Run) (cluster : IsClusterRun config liars run) where
  abbrev s : Counts
  s = config.roles.sizes

  abbrev IsHonest : ℕ → Type 0
  IsHonest name = is_correct s liars name ≡ true

  -- where a node took anything about a place, the place is before the end of its window
  pub taken_within : (node owner place : ℕ) → (taken_by run node owner place ≡ [] → ⊥) →
      place < reach_of config run node owner + window
  taken_within node owner place some =
      let from = (some_taken run node owner place some).1 in
      let open' = taken_is_open config node (history_of node run) from.packet from.number (cluster.legal node)
      from.in_history in
      let P : ℕ → ℕ → Type 0 = λ o k. k < reach_of config run node o + window in
      subst (λ o. P o place) from.owner_is (subst (P from.packet.owner) from.place_is (below _ _ open'.within))

  pub sent_within : (node : ℕ) (kind : Kind) (owner place : ℕ) (c : Command) → (kind ≡ Send → node ≡ owner) →
      said_by s run node kind owner place ≡ Some c → place < reach_of config run node owner + window
  sent_within node Send owner place c own e =
      let P : ℕ → Type 0 = λ o. place < reach_of config run node o + window in
      let mine = if_some (owner == node) _ c e in
      let within = slice_get_within (issued (history_of node run)) place c mine.1 in
      let few = issues_within config node (history_of node run) (cluster.legal node) in
      subst P (own refl) (omega (arith, within, few))
  sent_within node Echo owner place c own e =
      taken_within node owner place (λ none.
      let nothing : echoed (taken_by run node owner place) ≡ None = ap echoed none ∙ echoed-none in absurd cc)
  sent_within node Ready owner place c own e =
      taken_within node owner place (λ none.
      let nothing : readied s (taken_by run node owner place) ≡ None = ap (readied s) none ∙ readied-none s in
      absurd cc)

  -- a packet of the pool is before the end of its sender's window
  pub pooled_within : (p : PacketValue) → Contains (pool config run) p →
      p.place < reach_of config run p.from p.owner + window
  pooled_within p pooled =
      let was = pooled_is_sent config liars run p cluster pooled in
      sent_within p.from p.kind p.owner p.place p.command (pooled_is_sound config liars run cluster p pooled).0
      (has_sent_is s run p.from (message_of p) was.sent)

  pub owned : (p : PacketValue) → WasSent config liars run p → p.owner < s.nodes
  owned p was =
      ⊎_elim
      (λ (within : p.owner < s.nodes). within)
      (λ (past : s.nodes ≤ p.owner).
      let clash : true ≡ false = sym was.sent ∙ foreign_is_unsent config liars run p.from (message_of p) cluster past
      (correct_is_node s liars p.from was.from) in
      absurd cc)
      (cases_lt p.owner s.nodes)

  pub pooled_is_open : (p : PacketValue) → Contains (pool config run) p →
      p.place < reach_of config run p.to p.owner + window → IsOpen s p.to (packets (history_of p.to run)) p
  pooled_is_open p pooled within =
      let was = pooled_is_sent config liars run p cluster pooled in
      record {
        routed = and_from _ _ (and_from _ _ (same p.to)
            (lt-ltb p.from s.nodes (correct_is_node s liars p.from was.from))) (lt-ltb p.owner s.nodes (owned p was));
        within = not_full _ _ within;
      }
    where
      same : (a : ℕ) → (a == a) ≡ true
      same a = grind (arith, nat_tests)
