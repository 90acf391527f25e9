-- What holds of each life of a cluster, whatever its correct nodes record, sync and lose in crashes.
use Rattle.std.specs.Prelude.{◌≡◌, ℕ, ◌<◌, ◌≤◌, false, IsTrue, List, ◌∷◌, [], ◌++◌, take, length}
use Rattle.std.specs.List.{flat_map}
use Rattle.std.specs.FinSet as sets
use Rattle.quorum_sizes.specs.NodeSets.{Nodes, AreNodes}
use Rattle.link_frames.specs.declared.frames.packet.Message.{Message}
use Rattle.role_node.specs.Begun.{is_begun_twice}
use Rattle.role_node.specs.Configs.{ConfigValue}
use Rattle.role_node.specs.Histories.{issued}
use Rattle.role_node.specs.declared.event.Event.{Event}
use Rattle.byz_world.specs.Headline.{KeepsThePromise}
use Rattle.byz_world.specs.Runs.{Run, history_of, IsCorrect, IsClusterRun}
use Rattle.restarts.specs.Lives.{Act, Records, Syncs, Moment, moment, has_left, IsLife}

-- What stands at any moment of a life is a run of a cluster: a node that crashed and was restored with all that it had
-- synced is a correct node.
abbrev pub RestartsAreRuns : Type 0
RestartsAreRuns =
    (config : ConfigValue) (liars : Nodes) (acts : List Act) (k : ℕ) → IsLife config liars acts →
    IsClusterRun config liars (moment acts k).run

-- each event of the run is synced once it is recorded
abbrev pub synced_at_once : Run → List Act
synced_at_once run = flat_map (λ pair. Records pair.0 pair.1 ∷ Syncs pair.0 ∷ []) run

-- the acts are a life, and at its end this run stands
pub record StandsAfter (config : ConfigValue) (liars : Nodes) (run : Run) (acts : List Act) : Type 0 where
  pub is_life : IsLife config liars acts
  pub stands : (moment acts (length acts)).run ≡ run

-- Lives are no narrower: each run of a cluster stands after one.
abbrev pub RunsAreLives : Type 0
RunsAreLives =
    (config : ConfigValue) (liars : Nodes) (run : Run) → IsClusterRun config liars run →
    StandsAfter config liars run (synced_at_once run)

-- the prefix of a node's history that is synced
abbrev pub synced_of : Moment → ℕ → List Event
synced_of m node = take (m.synced node) (history_of node m.run)

-- the history begins with it
abbrev pub IsFrontOf : List Event → List Event → Type 0
IsFrontOf front history = (rest : List Event) × (front ++ rest ≡ history)

-- What is synced at a moment is a prefix of the node's history at each later one.
abbrev pub NothingIsTakenBack : Type 0
NothingIsTakenBack =
    (config : ConfigValue) (liars : Nodes) (acts : List Act) (k later node : ℕ) → IsLife config liars acts → k ≤ later →
    IsFrontOf (synced_of (moment acts k) node) (history_of node (moment acts later).run)

-- What stands at any moment keeps the promise of the cluster, whoever crashed before.
abbrev pub RestartsKeepThePromise : Type 0
RestartsKeepThePromise =
    (config : ConfigValue) (liars : Nodes) (acts : List Act) (k : ℕ) → IsLife config liars acts →
    KeepsThePromise config liars (moment acts k).run

-- No correct node is begun twice at any moment of a life, whatever it lost in crashes: what it delivers of its own
-- stream is the beginning of what it had published.
abbrev pub RestartsBeginOnce : Type 0
RestartsBeginOnce =
    (config : ConfigValue) (liars : Nodes) (acts : List Act) (k node : ℕ) → IsLife config liars acts →
    IsCorrect config liars node →
    is_begun_twice config.roles.sizes node (history_of node (moment acts k).run) ≡ false

-- What had left a correct node at a moment of a life is about no place of a correct owner's stream that the owner
-- hasn't published at that moment, or at a later one, whatever it lost in crashes between.
abbrev pub NothingLeftIsAhead : Type 0
NothingLeftIsAhead =
    (config : ConfigValue) (liars : Nodes) (acts : List Act) (k later node : ℕ) (m : Message) →
    IsLife config liars acts → k ≤ later → IsCorrect config liars node → IsCorrect config liars m.owner →
    IsTrue (has_left config.roles.sizes (moment acts k) node m) →
    m.place < length (issued (history_of m.owner (moment acts later).run))

-- At some moment of a life a message about the owner's stream was given to the owner in this name, at a place that the
-- owner hadn't published by then. If the name is a correct node's, it had left that node by then.
pub record VotedAhead (config : ConfigValue) (liars : Nodes) (acts : List Act) (owner name : ℕ) : Type 0 where
  pub left_at : ℕ
  pub given_at : ℕ
  pub order : left_at ≤ given_at
  pub message : Message
  pub about : message.owner ≡ owner
  pub ahead : length (issued (history_of owner (moment acts given_at).run)) ≤ message.place
  pub link : IsCorrect config liars name → IsTrue (has_left config.roles.sizes (moment acts left_at) name message)

-- No more names than nodes may lie are such to a correct owner, whatever it lost in crashes.
abbrev pub FewVoteAhead : Type 0
FewVoteAhead =
    (config : ConfigValue) (liars : Nodes) (acts : List Act) (owner : ℕ) (names : Nodes) →
    IsLife config liars acts → IsCorrect config liars owner → AreNodes config.roles.sizes names →
    ((name : ℕ) → IsTrue (sets.contains names name) → VotedAhead config liars acts owner name) →
    sets.len names ≤ config.roles.sizes.liars

-- Nobody is told two stories: what has left a correct node at two moments, whatever crashed between them, is one
-- message of a kind about a place. (A liar has no events here, so by these words nothing has left it.)
abbrev pub NobodyIsToldTwoStories : Type 0
NobodyIsToldTwoStories =
    (config : ConfigValue) (liars : Nodes) (acts : List Act) (k later node : ℕ) (one other : Message) →
    IsLife config liars acts →
    IsTrue (has_left config.roles.sizes (moment acts k) node one) →
    IsTrue (has_left config.roles.sizes (moment acts later) node other) →
    one.kind ≡ other.kind → one.owner ≡ other.owner → one.place ≡ other.place → one ≡ other
