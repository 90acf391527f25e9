-- The life of a cluster whose nodes crash, in all parts: what they do, sync and lose, what may be done next, and what
-- stands. A node has one journal for all its parts, its clients' acts and what it adopts: a sync keeps all that it did,
-- and a crash loses what it did last.
use Rattle.std.specs.Prelude.{◌≡◌, ◌≢◌, ⊤, ℕ, zero, suc, ◌==◌, ◌≤◌, Bool, if◌then◌else◌, IsTrue}
use Rattle.std.specs.Prelude.{List, [], ◌∷◌, ◌++◌, length, take, fold, slice_get, Some}
use Rattle.std.specs.FinSet as sets
use Rattle.quorum_sizes.specs.Sizes.{Counts, AreSizes}
use Rattle.quorum_sizes.specs.NodeSets.{Nodes, nodes_among}
use Rattle.link_frames.specs.declared.frames.packet.Message.{Message}
use Rattle.link_frames.specs.frames.Packets.{PacketValue, IsSound, message_of}
use Rattle.role_commands.specs.declared.command.Command.{Command}
use Rattle.owner_streams.specs.Laws.{IsPrefixOf}
use Rattle.role_node.specs.declared.event.Event.TheVariants.{Take}
use Rattle.part_lives.specs.Parts.{Plan, Part, Act, In, Adopts, total}
use Rattle.part_lives.specs.Lives.{IsPlan, is_due}
use Rattle.stream_parts.specs.LongRuns.{LongRun, acts_of, IsCorrectIn, has_sent_in}

-- A node does something. It syncs what it has done. It crashes, and is restored to so many of its acts, the first that it
-- did.
pub data Deed : Type 0 where
  Does : (node : ℕ) (act : Act) → Deed
  Syncs : (node : ℕ) → Deed
  Crashes : (node count : ℕ) → Deed

-- the run without what the node did after so many acts
abbrev pub restored_to : ℕ → LongRun → ℕ → LongRun
restored_to node [] count = []
restored_to node (pair ∷ run) zero =
    if pair.0 == node then restored_to node run 0 else pair ∷ restored_to node run 0
restored_to node (pair ∷ run) (suc count) =
    pair ∷ restored_to node run (if pair.0 == node then count else suc count)

-- what stands, and how many acts of each node are synced
pub record Moment : Type 0 where
  pub run : LongRun
  pub synced : ℕ → ℕ

abbrev pub at_first : Moment
at_first = record { run = []; synced = λ node. 0 }

abbrev pub after : Moment → Deed → Moment
after m (Does node act) = record { run = m.run ++ (node, act) ∷ []; synced = m.synced }
after m (Syncs node) = record {
  run = m.run;
  synced = λ other. if other == node then length (acts_of node m.run) else m.synced other;
}
after m (Crashes node count) = record { run = restored_to node m.run count; synced = m.synced }

abbrev pub moment : List Deed → ℕ → Moment
moment deeds k = fold after at_first (take k deeds)

-- the node's synced acts have sent the message in the part: no crash undoes that
abbrev pub has_left : Counts → Moment → Part → ℕ → Message → Bool
has_left s m part node message = has_sent_in s (restored_to node m.run (m.synced node)) part node message

-- a correct node has these commands of the owner among what it has synced: no crash undoes that
pub record HasSynced (plan : Plan) (liars : Nodes) (m : Moment) (owner : ℕ) (past : List Command) : Type 0 where
  pub source : ℕ
  pub honest : IsCorrectIn plan liars source
  pub had : IsPrefixOf past (total plan (take (m.synced source) (acts_of source m.run)) owner)

-- A correct node does what is due to what it did. It adopts what a correct node has synced. What it takes in another
-- correct node's name had left that node; its own packets it takes once it has sent them.
pub record MayDo (plan : Plan) (liars : Nodes) (m : Moment) (node : ℕ) (act : Act) : Type 0 where
  pub correct : IsCorrectIn plan liars node
  pub due : IsTrue (is_due plan node (acts_of node m.run) act)
  pub adopts : (owner number : ℕ) (past : List Command) → act ≡ Adopts owner number past →
      HasSynced plan liars m owner past
  pub sound : (part : Part) (p : PacketValue) → act ≡ In part (Take p) → IsSound p
  pub links : (part : Part) (p : PacketValue) → act ≡ In part (Take p) → IsCorrectIn plan liars p.from →
      p.from ≢ node → IsTrue (has_left plan.roles.sizes m part p.from (message_of p))
  pub own : (part : Part) (p : PacketValue) → act ≡ In part (Take p) → p.from ≡ node →
      IsTrue (has_sent_in plan.roles.sizes m.run part node (message_of p))

-- a crash loses nothing that was synced
abbrev pub May : Plan → Nodes → Moment → Deed → Type 0
May plan liars m (Does node act) = MayDo plan liars m node act
May plan liars m (Syncs node) = ⊤
May plan liars m (Crashes node count) = m.synced node ≤ count

-- A life of a cluster in which at most f nodes lie, fewer than a third: each deed may be done at its moment.
pub record IsLongLife (plan : Plan) (liars : Nodes) (deeds : List Deed) : Type 0 where
  pub is_plan : IsPlan plan
  pub sizes : AreSizes plan.roles.sizes
  pub few : sets.len (nodes_among plan.roles.sizes liars) ≤ plan.roles.sizes.liars
  pub may : (k : ℕ) (deed : Deed) → slice_get deeds k ≡ Some deed → May plan liars (moment deeds k) deed
