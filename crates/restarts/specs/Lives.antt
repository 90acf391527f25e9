-- The life of a cluster whose nodes crash: what they record, sync and lose, what may be done next, and what stands.
use Rattle.std.specs.Prelude.{◌≡◌, ◌≢◌, ⊤, ℕ, zero, suc, ◌==◌, ◌≤◌, Bool, if◌then◌else◌, IsTrue}
use Rattle.std.specs.Prelude.{List, [], ◌∷◌, ◌++◌, length, take, fold, slice_get, Some}
use Rattle.std.specs.FinSet as sets
use Rattle.quorum_sizes.specs.Sizes.{Counts, AreSizes}
use Rattle.quorum_sizes.specs.NodeSets.{Nodes, nodes_among}
use Rattle.link_frames.specs.declared.frames.packet.Message.{Message}
use Rattle.link_frames.specs.frames.Packets.{PacketValue, IsSound, message_of}
use Rattle.role_node.specs.Configs.{ConfigValue}
use Rattle.role_node.specs.Answers.{answer_due, is_recorded}
use Rattle.role_node.specs.declared.event.Event.{Event}
use Rattle.role_node.specs.declared.event.Event.TheVariants.{Take}
use Rattle.byz_world.specs.Runs.{Run, history_of, IsCorrect, has_sent}

-- A node records an event. It syncs what it has recorded. It crashes, and is restored to so many of its events, the
-- first that it recorded.
pub data Act : Type 0 where
  Records : (node : ℕ) (event : Event) → Act
  Syncs : (node : ℕ) → Act
  Crashes : (node count : ℕ) → Act

-- the run without what the node recorded after so many events
abbrev pub restored_to : ℕ → Run → ℕ → Run
restored_to node [] count = []
restored_to node (pair ∷ run) zero =
    if pair.0 == node then restored_to node run 0 else pair ∷ restored_to node run 0
restored_to node (pair ∷ run) (suc count) =
    pair ∷ restored_to node run (if pair.0 == node then count else suc count)

-- what stands, in the order in which it happened, and how many events of each node are synced
pub record Moment : Type 0 where
  pub run : Run
  pub synced : ℕ → ℕ

abbrev pub at_first : Moment
at_first = record { run = []; synced = λ node. 0 }

abbrev pub after : Moment → Act → Moment
after m (Records node event) = record { run = m.run ++ (node, event) ∷ []; synced = m.synced }
after m (Syncs node) = record {
  run = m.run;
  synced = λ other. if other == node then length (history_of node m.run) else m.synced other;
}
after m (Crashes node count) = record { run = restored_to node m.run count; synced = m.synced }

-- after the first k acts of a life
abbrev pub moment : List Act → ℕ → Moment
moment acts k = fold after at_first (take k acts)

-- the node's synced events have sent the message to all: it may have left the node, and no crash undoes that
abbrev pub has_left : Counts → Moment → ℕ → Message → Bool
has_left s m node message = has_sent s (restored_to node m.run (m.synced node)) node message

-- A correct node answers as is due to its history. What it takes in another correct node's name had left that node. Its
-- own packets it takes once it has sent them, synced or not: a crash that loses what sent them loses that too.
pub record MayRecord (config : ConfigValue) (liars : Nodes) (m : Moment) (node : ℕ) (event : Event) : Type 0 where
  pub correct : IsCorrect config liars node
  pub recorded : IsTrue (is_recorded (answer_due config node (history_of node m.run) event))
  pub sound : (p : PacketValue) → event ≡ Take p → IsSound p
  pub links : (p : PacketValue) → event ≡ Take p → IsCorrect config liars p.from → p.from ≢ node →
      IsTrue (has_left config.roles.sizes m p.from (message_of p))
  pub own : (p : PacketValue) → event ≡ Take p → p.from ≡ node →
      IsTrue (has_sent config.roles.sizes m.run node (message_of p))

-- a crash loses nothing that was synced
abbrev pub May : ConfigValue → Nodes → Moment → Act → Type 0
May config liars m (Records node event) = MayRecord config liars m node event
May config liars m (Syncs node) = ⊤
May config liars m (Crashes node count) = m.synced node ≤ count

-- A life of a cluster in which at most f nodes lie, fewer than a third: each act may be done at its moment.
pub record IsLife (config : ConfigValue) (liars : Nodes) (acts : List Act) : Type 0 where
  pub sizes : AreSizes config.roles.sizes
  pub few : sets.len (nodes_among config.roles.sizes liars) ≤ config.roles.sizes.liars
  pub may : (k : ℕ) (act : Act) → slice_get acts k ≡ Some act → May config liars (moment acts k) act
