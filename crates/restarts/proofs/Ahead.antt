-- What had left correct nodes about a correct owner's stream, and in how many names the owner hears more.
use Rattle.std.proofs.Common.{ℕ, ◌<◌, ◌≤◌, ⊎_elim, List, length, sym, subst, arith}
use Rattle.std.specs.FinSet as sets
use Rattle.std.proofs.lemmas.Bool.{and_from, lt-ltb, not_from_false, cases_lt}
use Rattle.quorum_sizes.specs.Sizes.{Counts}
use Rattle.quorum_sizes.specs.NodeSets.{Nodes}
use Rattle.quorum_sizes.proofs.Exported.{one_is_correct}
use Rattle.link_frames.specs.declared.frames.packet.Message.{Message}
use Rattle.role_node.specs.Configs.{ConfigValue}
use Rattle.role_node.specs.Histories.{issued}
use Rattle.byz_world.specs.Begun.{NobodyVotesAhead}
use Rattle.byz_world.specs.Runs.{Run, history_of, IsCorrect}
use Rattle.restarts.specs.Laws.{RestartsAreRuns, NothingLeftIsAhead, VotedAhead, FewVoteAhead}
use Rattle.restarts.specs.Lives.{Act, moment, IsLife}
use Rattle.restarts.proofs.Lives.{left_is_said}

pub nothing_left_is_ahead : RestartsAreRuns → NobodyVotesAhead → NothingLeftIsAhead
nothing_left_is_ahead are_runs nobody config liars acts k later node m life le correct owner left =
    nobody config liars (moment acts later).run node m (are_runs config liars acts later life) correct owner
    (left_is_said config liars acts k later node m life le left)

module _ (nothing : NothingLeftIsAhead) where
  honest_is_behind : (config : ConfigValue) (liars : Nodes) (acts : List Act) (owner name : ℕ) →
      IsLife config liars acts → IsCorrect config liars owner → IsCorrect config liars name →
      VotedAhead config liars acts owner name → ⊥
  honest_is_behind config liars acts owner name life correct honest voted =
      let now : Run = (moment acts voted.given_at).run in
      let m : Message = voted.message in
      let behind : m.place < length (issued (history_of m.owner now)) =
      nothing config liars acts voted.left_at voted.given_at name m life voted.order honest
      (subst (IsCorrect config liars) (sym voted.about) correct) (voted.link honest) in
      let own : m.place < length (issued (history_of owner now)) =
      subst (λ n. m.place < length (issued (history_of n now))) voted.about behind in
      omega (arith, own, voted.ahead)

  pub few_vote_ahead : FewVoteAhead
  few_vote_ahead config liars acts owner names life correct are voted =
      let s : Counts = config.roles.sizes in
      ⊎_elim
      (λ (many : s.liars < sets.len names).
      let one = one_is_correct s names liars are many life.few in
      let honest : IsCorrect config liars one.0 =
      and_from _ _ (lt-ltb one.0 s.nodes one.1) (not_from_false _ one.3) in
      absurd (honest_is_behind config liars acts owner one.0 life correct honest (voted one.0 one.2)))
      (λ (few : sets.len names ≤ s.liars). few)
      (cases_lt s.liars (sets.len names))
