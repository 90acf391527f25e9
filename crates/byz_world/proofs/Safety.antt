-- What correct nodes are ready for and deliver: one command at a place of an owner's stream, and of a correct owner
-- only what it issued there.
use Rattle.std.proofs.Common.{◌≡◌, ℕ, zero, suc, ◌+◌, ◌/◌, ◌<◌, ◌≤◌, min, true, false, ◌&&◌, if◌then◌else◌, List}
use Rattle.std.proofs.Common.{[], ◌∷◌, length, take, slice_get, Some, refl, sym, ap, ◌∙◌, arith, ⊎_elim, nat_le}
use Rattle.std.specs.FinSet as sets
use Rattle.std.specs.Cmp.{nat_cmp_total}
use Rattle.std.proofs.lemmas.Bool.{and_parts, and_from, or_cases, leb-true, lt-ltb, not_from_false}
use Rattle.std.proofs.lemmas.Option.{same_Some, slice_get_within}
use Rattle.quorum_sizes.specs.Sizes.{Counts, echo_quorum_of, amplify_of, deliver_of}
use Rattle.quorum_sizes.specs.NodeSets.{Nodes, AreNodes}
use Rattle.quorum_sizes.proofs.Exported.{quorums_share, one_is_correct}
use Rattle.role_commands.specs.Same.{same_command}
use Rattle.role_commands.specs.declared.command.Command.{Command}
use Rattle.link_frames.specs.declared.frames.kind.Kind.{Kind}
use Rattle.link_frames.specs.declared.frames.kind.Kind.TheVariants.{Echo, Ready}
use Rattle.bracha_instance.specs.Broadcast.{Take, Names, supporters, readied, delivered, may_ready, may_deliver}
use Rattle.bracha_instance.proofs.Exported.{same_command-refl, ready_was_first, delivery_was_first}
use Rattle.owner_streams.proofs.Exported.{stream_is_exact_lem}
use Rattle.role_node.specs.Configs.{ConfigValue}
use Rattle.role_node.specs.Histories.{issued, packets}
use Rattle.byz_world.specs.Agreement.{common_length}
use Rattle.byz_world.specs.Laws.{Consistency, Integrity}
use Rattle.byz_world.specs.Runs.{stream_of}
use Rattle.byz_world.specs.Runs.{Run, history_of, is_correct, IsClusterRun}
use Rattle.byz_world.proofs.Lists.{IsFront, front_taken, front_of_front, front_by_places}
use Rattle.byz_world.proofs.Histories.{taken_by, taken_front, taken_whole}
use Rattle.byz_world.proofs.Votes.{said_by, said_stays, vote_before, supporter_voted, echo_was_issued}

-- at some moment a node had taken a quorum of echoes for the command
pub record HadEchoes (s : Counts) (run : Run) (owner place : ℕ) (c : Command) : Type 0 where
  pub node : ℕ
  pub takes : List Take
  pub front : IsFront takes (taken_by run node owner place)
  pub enough : echo_quorum_of s ≤ sets.len (supporters Echo c takes)

module _ (config : ConfigValue) (liars : Nodes) (run : Run) (cluster : IsClusterRun config liars run) where
  abbrev s : Counts
  s = config.roles.sizes

  abbrev pub IsCorrect : ℕ → Type 0
  IsCorrect name = is_correct s liars name ≡ true

  pub correct_if : (name : ℕ) → name < s.nodes → sets.contains liars name ≡ false → IsCorrect name
  correct_if name below honest = and_from _ _ (lt-ltb name s.nodes below) (not_from_false _ honest)

  -- among so many that not all can lie one is correct
  pub correct_among : (names : Names) → AreNodes s names → s.liars < sets.len names →
      (name : ℕ) × IsCorrect name × (sets.contains names name ≡ true)
  correct_among names are many =
      let one = one_is_correct s names liars are many cluster.few in
      (one.0, correct_if one.0 one.1 one.3, one.2)

  -- each name that supports a command is a node's
  pub supporters_are : (m node owner place : ℕ) (takes : List Take)
      → IsFront takes (taken_by (take m run) node owner place) →
      (kind : Kind) (c : Command) → AreNodes s (supporters kind c takes)
  supporters_are m node owner place takes front kind c name is =
      let vote =
      vote_before config liars run m node owner place takes cluster front kind name c
      (supporter_voted kind c takes name is) in
      vote.of_node

  -- a correct supporter has sent what it supports
  pub supporter_said : (m node owner place : ℕ) (takes : List Take)
      → IsFront takes (taken_by (take m run) node owner place) →
      (kind : Kind) (c : Command) (name : ℕ) → IsCorrect name → sets.contains (supporters kind c takes) name ≡ true →
      said_by s run name kind owner place ≡ Some c
  supporter_said m node owner place takes front kind c name correct is =
      let vote =
      vote_before config liars run m node owner place takes cluster front kind name c
      (supporter_voted kind c takes name is) in
      said_stays s vote.at run name kind owner place c (vote.sent correct)

  -- Who is ready: by a quorum of echoes, or by a correct node that was ready earlier.

  ready_by : (owner place : ℕ) (c : Command) (most m node : ℕ) → m < most →
      readied s (taken_by (take m run) node owner place) ≡ Some c → HadEchoes s run owner place c
  unfolding may_ready
  ready_by owner place c zero m node h e = absurd (omega arith)
  ready_by owner place c (suc most) m node h e =
      let all = taken_by (take m run) node owner place in
      let first = ready_was_first s all c e in
      let takes = take first.0 all in
      let front : IsFront takes all = front_taken first.0 all in
      ⊎_elim
      (λ (echoes : nat_le (echo_quorum_of s) (sets.len (supporters Echo c takes)) ≡ true).
      record {
        node = node;
        takes = takes;
        front = front_of_front takes all (taken_by run node owner place) front (taken_front m run node owner place);
        enough = leb-true _ _ echoes;
      })
      (λ (readies : nat_le (amplify_of s) (sets.len (supporters Ready c takes)) ≡ true).
      let many : s.liars + 1 ≤ sets.len (supporters Ready c takes) = leb-true _ _ readies in
      let one =
      correct_among (supporters Ready c takes) (supporters_are m node owner place takes front Ready c) (omega arith)
      in
      let vote =
      vote_before config liars run m node owner place takes cluster front Ready one.0 c
      (supporter_voted Ready c takes one.0 one.2) in
      ready_by owner place c most vote.at one.0 (let early = vote.before in omega arith) (vote.sent one.1))
      (or_cases _ _ first.2)

  pub ready_had_echoes : (node owner place : ℕ) (c : Command) → readied s (taken_by run node owner place) ≡ Some c
      → HadEchoes s run owner place c
  ready_had_echoes node owner place c e =
      ready_by owner place c (suc (length run)) (length run) node (omega arith)
      (ap (readied s) (taken_whole run node owner place) ∙ e)

  pub whole_front : (takes : List Take) (node owner place : ℕ) → IsFront takes (taken_by run node owner place) →
      IsFront takes (taken_by (take (length run) run) node owner place)
  whole_front takes node owner place front = (front.0, taken_whole run node owner place ∙ front.1)

  -- Two quorums share a correct node, and it echoed one command.

  echoes_agree : (owner place : ℕ) (c d : Command) → HadEchoes s run owner place c → HadEchoes s run owner place d
      → c ≡ d
  echoes_agree owner place c d a b =
      let front_a = whole_front a.takes a.node owner place a.front in
      let front_b = whole_front b.takes b.node owner place b.front in
      let for_c = supporters Echo c a.takes in
      let for_d = supporters Echo d b.takes in
      let are_a : AreNodes s for_c = supporters_are (length run) a.node owner place a.takes front_a Echo c in
      let are_b : AreNodes s for_d = supporters_are (length run) b.node owner place b.takes front_b Echo d in
      let both : (name : ℕ) → sets.contains (sets.intersection for_c for_d) name
      ≡ (sets.contains for_c name && sets.contains for_d name) =
      sets.contains-intersection nat_cmp_total for_c for_d in
      let one = correct_among (sets.intersection for_c for_d)
      (λ name is. are_a name (and_parts _ _ (sym (both name) ∙ is)).0)
      (quorums_share s cluster.sizes for_c for_d are_a are_b a.enough b.enough) in
      let parts = and_parts _ _ (sym (both one.0) ∙ one.2) in
      same_Some c d
      (sym (supporter_said (length run) a.node owner place a.takes front_a Echo c one.0 one.1 parts.0)
      ∙ supporter_said (length run) b.node owner place b.takes front_b Echo d one.0 one.1 parts.1)

  pub ready_for_one : (i j owner place : ℕ) (c d : Command) → readied s (taken_by run i owner place) ≡ Some c →
      readied s (taken_by run j owner place) ≡ Some d → c ≡ d
  ready_for_one i j owner place c d e f =
      echoes_agree owner place c d (ready_had_echoes i owner place c e) (ready_had_echoes j owner place d f)

  -- What is delivered, a correct node is ready for.

  pub delivered_was_ready : (i owner place : ℕ) (c : Command) → delivered s (taken_by run i owner place) ≡ Some c →
      (name : ℕ) × IsCorrect name × (readied s (taken_by run name owner place) ≡ Some c)
  unfolding may_deliver
  delivered_was_ready i owner place c e =
      let all = taken_by run i owner place in
      let first = delivery_was_first s all c e in
      let takes = take first.0 all in
      let front = whole_front takes i owner place (front_taken first.0 all) in
      let many : deliver_of s ≤ sets.len (supporters Ready c takes) = leb-true _ _ first.2 in
      let one =
      correct_among (supporters Ready c takes) (supporters_are (length run) i owner place takes front Ready c)
      (omega arith) in
      (one.0, one.1, supporter_said (length run) i owner place takes front Ready c one.0 one.1 one.2)

  pub deliver_one : (i j owner place : ℕ) (c d : Command) → delivered s (taken_by run i owner place) ≡ Some c →
      delivered s (taken_by run j owner place) ≡ Some d → c ≡ d
  deliver_one i j owner place c d e f =
      let a = delivered_was_ready i owner place c e in
      let b = delivered_was_ready j owner place d f in
      ready_for_one a.0 b.0 owner place c d a.2 b.2

  -- Of a correct owner, what a node is ready for was issued.

  pub ready_was_issued : (i owner place : ℕ) (c : Command) → IsCorrect owner
      → readied s (taken_by run i owner place) ≡ Some c →
      slice_get (issued (history_of owner run)) place ≡ Some c
  ready_was_issued i owner place c correct e =
      let a = ready_had_echoes i owner place c e in
      let front = whole_front a.takes a.node owner place a.front in
      let sizes = cluster.sizes in
      let enough : (s.nodes + s.liars) / 2 + 1 ≤ sets.len (supporters Echo c a.takes) = a.enough in
      let one =
      correct_among (supporters Echo c a.takes)
      (supporters_are (length run) a.node owner place a.takes front Echo c) (omega arith) in
      echo_was_issued config liars run one.0 owner place c cluster correct
      (supporter_said (length run) a.node owner place a.takes front Echo c one.0 one.1 one.2)

  pub delivered_was_issued : (i owner place : ℕ) (c : Command) → IsCorrect owner
      → delivered s (taken_by run i owner place) ≡ Some c →
      slice_get (issued (history_of owner run)) place ≡ Some c
  delivered_was_issued i owner place c correct e =
      let a = delivered_was_ready i owner place c e in ready_was_issued a.0 owner place c correct a.2

  -- Streams.

  pub streamed : (i owner place : ℕ) (c : Command) → slice_get (stream_of config run i owner) place ≡ Some c →
      delivered s (taken_by run i owner place) ≡ Some c
  streamed i owner place c e =
      let within = slice_get_within (stream_of config run i owner) place c e in
      stream_is_exact_lem s owner (packets (history_of i run)) place (omega arith) ∙ e

-- lists of which no two elements at one place differ agree as far as both reach
common_by : (xs ys : List Command)
    → ((k : ℕ) (c d : Command) → slice_get xs k ≡ Some c → slice_get ys k ≡ Some d → c ≡ d) →
    common_length xs ys ≡ min (length xs) (length ys)
unfolding common_length
common_by [] ys same = omega arith
common_by (x ∷ xs) [] same = omega arith
common_by (x ∷ xs) (y ∷ ys) same =
    let first : same_command x y ≡ true = ap (same_command x) (sym (same zero x y refl refl)) ∙ same_command-refl x in
    let rest : common_length xs ys ≡ min (length xs) (length ys) =
    common_by xs ys (λ k c d e f. same (suc k) c d e f) in
    ap (λ b. if b then suc (common_length xs ys) else 0) first ∙ omega arith

pub consistency : Consistency
consistency config liars run cluster = record {
  ready_for_one = λ i j owner place c d _ _ e f. ready_for_one config liars run cluster i j owner place c d e f;
  deliver_one = λ i j owner place c d _ _ e f. deliver_one config liars run cluster i j owner place c d e f;
  streams_agree = λ i j owner _ _. common_by _ _ (λ k c d e f.
      deliver_one config liars run cluster i j owner k c d
      (streamed config liars run cluster i owner k c e) (streamed config liars run cluster j owner k d f));
}

pub integrity : Integrity
integrity config liars run i owner cluster _ correct =
    front_by_places _ _ (λ k c e.
    delivered_was_issued config liars run cluster i owner k c correct (streamed config liars run cluster i owner k c e))
