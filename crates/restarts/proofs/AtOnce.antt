-- The life in which each event of a run of a cluster is synced once it is recorded.
use Rattle.std.proofs.Common.{◌≡◌, ℕ, ◌==◌, Bool, true, false, List, [], ◌∷◌, ◌++◌, length, take, Some, refl, sym, ap}
use Rattle.std.proofs.Common.{◌∙◌, subst, arith, append-nil, append_assoc}
use Rattle.std.specs.Prelude.{IsTrue, slice_get, fold, if◌then◌else◌}
use Rattle.std.proofs.Math.Seq.{take-append_seam}
use Rattle.std.proofs.lemmas.Bool.Decides.{nat_tests}
use Rattle.std.proofs.lemmas.List.{take_all}
use Rattle.std.proofs.lemmas.Map.Views.{exact_unsigned_eq}
use Rattle.quorum_sizes.specs.NodeSets.{Nodes}
use Rattle.role_commands.proofs.Exported.{slice_get-seam}
use Rattle.link_frames.specs.declared.frames.packet.Message.{Message}
use Rattle.link_frames.specs.frames.Packets.{PacketValue, message_of}
use Rattle.role_node.specs.Answers.{is_recorded, answer_due}
use Rattle.role_node.specs.Configs.{ConfigValue}
use Rattle.role_node.specs.declared.event.Event.{Event}
use Rattle.role_node.specs.declared.event.Event.TheVariants.{Take}
use Rattle.byz_world.specs.Runs.{Run, history_of, has_sent, IsCorrect, IsClusterRun}
use Rattle.byz_world.proofs.Exported.{recorded_after, history_of-none, history_of-push_other}
use Rattle.restarts.specs.Lives.{Act, Records, Syncs, restored_to, Moment, at_first, after, has_left, MayRecord}
use Rattle.restarts.specs.Laws.{synced_at_once, RunsAreLives}
use Rattle.restarts.proofs.Lives.{MayAll, each_may}
use Rattle.restarts.proofs.Restoring.{own_history}
use Rattle.restarts.proofs.Sending.{is_said, said_is}

-- the run stands, and all of it is synced
pub record IsSynced (m : Moment) (run : Run) : Type 0 where
  pub stands : m.run ≡ run
  pub all : (node : ℕ) → m.synced node ≡ length (history_of node run)

pub none_synced : IsSynced at_first []
none_synced = record { stands = refl; all = λ node. sym (ap length (history_of-none node)) }

all_by : (m : Moment) (past : Run) (node n : ℕ) (event : Event) (own : Bool) → (n == node) ≡ own → IsSynced m past →
    (if own then length (history_of node (m.run ++ (node, event) ∷ [])) else m.synced n)
    ≡ length (history_of n (past ++ (node, event) ∷ []))
all_by m past node n event true own synced =
    let same : n ≡ node = exact_unsigned_eq n node own in
    ap (λ r. length (history_of node (r ++ (node, event) ∷ []))) synced.stands
    ∙ ap (λ j. length (history_of j (past ++ (node, event) ∷ []))) (sym same)
all_by m past node n event false other synced =
    let not_own : (node == n) ≡ false = grind (arith, nat_tests) in
    synced.all n ∙ ap length (sym (history_of-push_other n (node, event) past not_own))

pub synced_next : (m : Moment) (past : Run) (node : ℕ) (event : Event) → IsSynced m past →
    IsSynced (after (after m (Records node event)) (Syncs node)) (past ++ (node, event) ∷ [])
synced_next m past node event synced = record {
  stands = ap (λ r. r ++ (node, event) ∷ []) synced.stands;
  all = λ n. all_by m past node n event (n == node) refl synced;
}

module _ (config : ConfigValue) (liars : Nodes) where
  -- where all is synced, what was sent has left
  sent_has_left : (m : Moment) (past : Run) (node : ℕ) (message : Message) → IsSynced m past →
      IsTrue (has_sent config.roles.sizes past node message) →
      IsTrue (has_left config.roles.sizes m node message)
  sent_has_left m past node message synced sent =
      let s = config.roles.sizes in
      let h : List Event = history_of node past in
      let whole : history_of node (restored_to node m.run (m.synced node)) ≡ h =
      own_history node m.run (m.synced node) ∙ (λ i. take (synced.all node i) (history_of node (synced.stands i)))
      ∙ take_all (length h) h (omega arith) in
      let same : has_left s m node message ≡ has_sent s past node message =
      said_is s (restored_to node m.run (m.synced node)) node message
      ∙ ap (λ es. is_said s node es message) whole ∙ sym (said_is s past node message) in
      subst IsTrue (sym same) sent

  pub may_record : (m : Moment) (past rest : Run) (node : ℕ) (event : Event) → IsSynced m past →
      IsClusterRun config liars (past ++ (node, event) ∷ rest) → MayRecord config liars m node event
  may_record m past rest node event synced cluster = record {
    correct = correct;
    recorded = subst (λ r. IsTrue (is_recorded (answer_due config node (history_of node r) event)))
        (sym synced.stands) (recorded_after config past rest node event (cluster.legal node));
    sound = λ p is. cluster.sound (length past) node p (taken p is);
    links = λ p is honest apart. sent_has_left m past p.from (message_of p) synced (sent p is honest);
    own = λ p is same.
        subst (λ r. IsTrue (has_sent config.roles.sizes r node (message_of p))) (sym synced.stands)
        (subst (λ n. IsTrue (has_sent config.roles.sizes past n (message_of p))) same
        (sent p is (subst (IsCorrect config liars) (sym same) correct)));
  }
    where
      there : slice_get (past ++ (node, event) ∷ rest) (length past) ≡ Some (node, event)
      there = slice_get-seam past rest (node, event)

      correct : IsCorrect config liars node
      correct = cluster.correct (length past) node event there

      taken : (p : PacketValue) → event ≡ Take p →
          slice_get (past ++ (node, event) ∷ rest) (length past) ≡ Some (node, Take p)
      taken p is = there ∙ ap (λ e. Some (node, e)) is

      sent : (p : PacketValue) → event ≡ Take p → IsCorrect config liars p.from →
          IsTrue (has_sent config.roles.sizes past p.from (message_of p))
      sent p is honest =
          subst (λ r. IsTrue (has_sent config.roles.sizes r p.from (message_of p)))
          (take-append_seam past ((node, event) ∷ rest))
          (cluster.links (length past) node p (taken p is) honest)

  pub all_at_once : (m : Moment) (past rest : Run) → IsSynced m past → IsClusterRun config liars (past ++ rest) →
      MayAll config liars m (synced_at_once rest) × IsSynced (fold after m (synced_at_once rest)) (past ++ rest)
  all_at_once m past [] synced cluster = (_, subst (IsSynced m) (sym (append-nil past)) synced)
  all_at_once m past (pair ∷ rest) synced cluster =
      let next : Moment = after (after m (Records pair.0 pair.1)) (Syncs pair.0) in
      let split : (past ++ pair ∷ []) ++ rest ≡ past ++ pair ∷ rest = append_assoc past (pair ∷ []) rest in
      let more = all_at_once next (past ++ pair ∷ []) rest (synced_next m past pair.0 pair.1 synced)
      (subst (IsClusterRun config liars) (sym split) cluster) in (
        (may_record m past rest pair.0 pair.1 synced cluster, (_, more.0)),
        subst (IsSynced (fold after next (synced_at_once rest))) split more.1,
      )

pub runs_are_lives : RunsAreLives
runs_are_lives config liars run cluster =
    let acts : List Act = synced_at_once run in
    let done = all_at_once config liars at_first [] run none_synced cluster in
    record {
      is_life = record {
        sizes = cluster.sizes;
        few = cluster.few;
        may = each_may config liars at_first acts done.0;
      };
      stands = ap (λ (some : List Act). (fold after at_first some).run) (take_all (length acts) acts (omega arith))
          ∙ done.1.stands;
    }
