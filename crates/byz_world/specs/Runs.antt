-- A run of a cluster: what happens at its correct nodes, in one order, and which runs can be, whatever the liars and
-- the network do.
use Rattle.std.specs.Prelude.{◌≡◌, ℕ, ◌==◌, ◌≤◌, Bool, not, ◌&&◌, nat_lt, if◌then◌else◌}
use Rattle.std.specs.Prelude.{IsTrue, List, take, slice_get, Option, Some, None}
use Rattle.std.specs.List.{filter_map}
use Rattle.std.specs.FinSet as sets
use Rattle.quorum_sizes.specs.Sizes.{Counts, AreSizes}
use Rattle.quorum_sizes.specs.NodeSets.{Nodes, nodes_among}
use Rattle.role_commands.specs.declared.command.Command.{Command}
use Rattle.link_frames.specs.declared.frames.kind.Kind.{Kind}
use Rattle.link_frames.specs.declared.frames.kind.Kind.TheVariants.{Send, Echo, Ready}
use Rattle.link_frames.specs.declared.frames.packet.Message.{Message}
use Rattle.link_frames.specs.frames.Packets.{PacketValue, IsSound, message_of}
use Rattle.bracha_instance.specs.Broadcast.{is_for}
use Rattle.role_node.specs.Configs.{ConfigValue}
use Rattle.role_node.specs.Access.{sent_at, stream_at, reach_at}
use Rattle.role_node.specs.Answers.{IsLegal}
use Rattle.role_node.specs.declared.event.Event.{Event}
use Rattle.role_node.specs.declared.event.Event.TheVariants.{Take}
use Rattle.role_node.specs.declared.event.NodeAgain.{NodeAgain}

-- a node's name and an event that it recorded, in the order in which they happened
abbrev pub Run : Type 0
Run = List (ℕ × Event)

abbrev pub event_at : ℕ → ℕ × Event → Option Event
event_at node pair = if pair.0 == node then Some pair.1 else None

-- a node's history in the run
unfoldable pub history_of : ℕ → Run → List Event
history_of node run = filter_map (event_at node) run

-- a node's stream of an owner, and how far it reaches
abbrev pub stream_of : ConfigValue → Run → ℕ → ℕ → List Command
stream_of config run node owner = stream_at config.roles.sizes (history_of node run) owner

abbrev pub reach_of : ConfigValue → Run → ℕ → ℕ → ℕ
reach_of config run node owner = reach_at config.roles.sizes (history_of node run) owner

-- a node that does not lie
abbrev pub is_correct : Counts → Nodes → ℕ → Bool
is_correct s liars node = nat_lt node s.nodes && not (sets.contains liars node)

abbrev pub IsCorrect : ConfigValue → Nodes → ℕ → Type 0
IsCorrect config liars node = IsTrue (is_correct config.roles.sizes liars node)

-- what is sent of a kind
abbrev pub of_kind : Kind → NodeAgain → Option Command
of_kind Send sent = sent.send
of_kind Echo sent = sent.echo
of_kind Ready sent = sent.ready

-- the node has sent this message to all, by its history in the run
unfoldable pub has_sent : Counts → Run → ℕ → Message → Bool
has_sent s run node m = is_for m.command (of_kind m.kind (sent_at s node (history_of node run) m.owner m.place))

-- Links tell the truth of correct nodes: what is taken in the name of one, it had sent by then. Packets of liars are
-- free.
abbrev pub LinksAreTrue : Counts → Nodes → Run → Type 0
LinksAreTrue s liars run =
    (t node : ℕ) (p : PacketValue) → slice_get run t ≡ Some (node, Take p) → IsTrue (is_correct s liars p.from) →
    IsTrue (has_sent s (take t run) p.from (message_of p))

-- nobody, a liar neither, sends a SEND in another's stream or speaks of a place that no stream has: there is no such
-- packet
abbrev pub PacketsAreSound : Run → Type 0
PacketsAreSound run = (t node : ℕ) (p : PacketValue) → slice_get run t ≡ Some (node, Take p) → IsSound p

-- A run of a cluster in which at most f nodes lie, fewer than a third, and each correct node has this configuration and
-- answers each event as it is due to its history.
pub record IsClusterRun (config : ConfigValue) (liars : Nodes) (run : Run) : Type 0 where
  pub sizes : AreSizes config.roles.sizes
  pub few : sets.len (nodes_among config.roles.sizes liars) ≤ config.roles.sizes.liars
  pub correct : (t node : ℕ) (event : Event) → slice_get run t ≡ Some (node, event) →
      IsCorrect config liars node
  pub legal : (node : ℕ) → IsLegal config node (history_of node run)
  pub sound : PacketsAreSound run
  pub links : LinksAreTrue config.roles.sizes liars run
