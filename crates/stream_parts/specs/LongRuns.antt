-- A long run: what the correct nodes of a cluster do, in one order, in all parts; and which can be, whatever the liars
-- and the network do.
use Rattle.std.specs.Prelude.{◌≡◌, ℕ, ◌==◌, ◌≤◌, Bool, if◌then◌else◌, IsTrue}
use Rattle.std.specs.Prelude.{List, take, slice_get, Option, Some, None, option_map}
use Rattle.std.specs.List.{filter_map}
use Rattle.std.specs.FinSet as sets
use Rattle.quorum_sizes.specs.Sizes.{Counts, AreSizes}
use Rattle.quorum_sizes.specs.NodeSets.{Nodes, nodes_among}
use Rattle.link_frames.specs.declared.frames.packet.Message.{Message}
use Rattle.link_frames.specs.frames.Packets.{PacketValue, IsSound, message_of}
use Rattle.bracha_instance.specs.Broadcast.{is_for}
use Rattle.owner_streams.specs.Laws.{IsPrefixOf}
use Rattle.role_commands.specs.declared.command.Command.{Command}
use Rattle.role_node.specs.Access.{sent_at}
use Rattle.role_node.specs.declared.event.Event.{Event}
use Rattle.role_node.specs.declared.event.Event.TheVariants.{Take}
use Rattle.byz_world.specs.Runs.{Run, of_kind, is_correct}
use Rattle.part_lives.specs.Parts.{Plan, Part, Act, In, Adopts, event_in, events_in, total}
use Rattle.part_lives.specs.Lives.{IsPlan, IsLife}

-- a node's name and an act of it, in the order in which they happened
abbrev pub LongRun : Type 0
LongRun = List (ℕ × Act)

abbrev pub act_at : ℕ → ℕ × Act → Option Act
act_at node pair = if pair.0 == node then Some pair.1 else None

-- a node's life in the run
unfoldable pub acts_of : ℕ → LongRun → List Act
acts_of node run = filter_map (act_at node) run

abbrev pub at_node : ℕ → Event → ℕ × Event
at_node node event = (node, event)

abbrev pub pair_in : Part → ℕ × Act → Option (ℕ × Event)
pair_in part pair = option_map (at_node pair.0) (event_in part pair.1)

-- what happened in a part, with nothing of others
unfoldable pub run_in : Part → LongRun → Run
run_in part run = filter_map (pair_in part) run

abbrev pub IsCorrectIn : Plan → Nodes → ℕ → Type 0
IsCorrectIn plan liars node = IsTrue (is_correct plan.roles.sizes liars node)

-- the node has sent this message in the part to all, by its history there
abbrev pub has_sent_in : Counts → LongRun → Part → ℕ → Message → Bool
has_sent_in s run part node m =
    is_for m.command (of_kind m.kind (sent_at s node (events_in part (acts_of node run)) m.owner m.place))

-- A correct node had all these parts at some moment by then. (That it had synced them, and how one knows, are matters of
-- crashes and of `SummaryIsTrue`.)
pub record MayAdopt (plan : Plan) (liars : Nodes) (run : LongRun) (owner : ℕ) (past : List Command) : Type 0 where
  pub source : ℕ
  pub honest : IsCorrectIn plan liars source
  pub count : ℕ
  pub had : IsPrefixOf past (total plan (take count (acts_of source run)) owner)

-- A run of a cluster for all its time: the plan is one; at most f nodes lie, fewer than a third; each correct node lives
-- its life; who adopts has it from a correct node; there are only sound packets; and what is taken in a correct node's
-- name in a part, it had sent in that part by then.
pub record IsLongRun (plan : Plan) (liars : Nodes) (run : LongRun) : Type 0 where
  pub is_plan : IsPlan plan
  pub sizes : AreSizes plan.roles.sizes
  pub few : sets.len (nodes_among plan.roles.sizes liars) ≤ plan.roles.sizes.liars
  pub correct : (t node : ℕ) (act : Act) → slice_get run t ≡ Some (node, act) → IsCorrectIn plan liars node
  pub lives : (node : ℕ) → IsLife plan node (acts_of node run)
  pub adopts : (t node owner number : ℕ) (past : List Command) →
      slice_get run t ≡ Some (node, Adopts owner number past) → MayAdopt plan liars (take t run) owner past
  pub sound : (t node : ℕ) (part : Part) (p : PacketValue) → slice_get run t ≡ Some (node, In part (Take p)) → IsSound p
  pub links : (t node : ℕ) (part : Part) (p : PacketValue) → slice_get run t ≡ Some (node, In part (Take p)) →
      IsCorrectIn plan liars p.from →
      IsTrue (has_sent_in plan.roles.sizes (take t run) part p.from (message_of p))
