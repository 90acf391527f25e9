-- That no correct node is taken for one that was begun twice, by neither sign of it: what its history shows, and that
-- others vote ahead of what it has published.
use Rattle.std.specs.Prelude.{◌≡◌, ℕ, ◌<◌, ◌≤◌, false, IsTrue, length, take}
use Rattle.std.specs.FinSet as sets
use Rattle.quorum_sizes.specs.NodeSets.{Nodes, AreNodes}
use Rattle.link_frames.specs.declared.frames.packet.Message.{Message}
use Rattle.role_node.specs.Begun.{is_begun_twice}
use Rattle.role_node.specs.Configs.{ConfigValue}
use Rattle.role_node.specs.Histories.{issued}
use Rattle.byz_world.specs.Runs.{Run, history_of, IsCorrect, has_sent, IsClusterRun}

-- At no moment of the run is what a correct node delivers of its own stream anything but the beginning of what it had
-- published.
abbrev pub BegunOnce : Type 0
BegunOnce =
    (config : ConfigValue) (liars : Nodes) (run : Run) (node : ℕ) → IsClusterRun config liars run →
    IsCorrect config liars node → is_begun_twice config.roles.sizes node (history_of node run) ≡ false

-- What a correct node has sent about a correct owner's stream is about a place that the owner has published.
abbrev pub NobodyVotesAhead : Type 0
NobodyVotesAhead =
    (config : ConfigValue) (liars : Nodes) (run : Run) (node : ℕ) (m : Message) → IsClusterRun config liars run →
    IsCorrect config liars node → IsCorrect config liars m.owner → IsTrue (has_sent config.roles.sizes run node m) →
    m.place < length (issued (history_of m.owner run))

-- At some moment of the run a message about the owner's stream was given to the owner in this name, at a place that the
-- owner hadn't published by then. If the name is a correct node's, that node had sent it.
pub record VotedAhead (config : ConfigValue) (liars : Nodes) (run : Run) (owner name : ℕ) : Type 0 where
  pub count : ℕ
  pub message : Message
  pub about : message.owner ≡ owner
  pub ahead : length (issued (history_of owner (take count run))) ≤ message.place
  pub link : IsCorrect config liars name → IsTrue (has_sent config.roles.sizes (take count run) name message)

-- No more names than nodes may lie are such to a correct owner.
abbrev pub FewVoteAhead : Type 0
FewVoteAhead =
    (config : ConfigValue) (liars : Nodes) (run : Run) (owner : ℕ) (names : Nodes) → IsClusterRun config liars run →
    IsCorrect config liars owner → AreNodes config.roles.sizes names →
    ((name : ℕ) → IsTrue (sets.contains names name) → VotedAhead config liars run owner name) →
    sets.len names ≤ config.roles.sizes.liars
