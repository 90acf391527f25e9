-- What the steps of a run do to the bytes that are left and to the text that is due and not yet written. Serves the
-- code, and no public contract.
use Rattle.std.specs.Prelude.{◌≡◌, ℕ, ◌-◌, ◌^◌, ◌≤◌, ◌⊎◌, Bool, true, false, List, []}
use Rattle.std.specs.Prelude.{◌∷◌, ◌++◌, length, ⊤, Option, None, Some, Result, Ok, Err}
use Rattle.std.specs.Io.KnownBytes.{Consumes, Appends, IsAtEnd}
use Rattle.link_frames.specs.lines.Devices.{AppendsFront}
use Rattle.link_frames.specs.lines.Lines.{lines_of, ended, NoLineEnd}
use Rattle.link_frames.specs.lines.LinePrograms.{HasBytes}
use Rattle.link_frames.specs.lines.LinesAt.{Lines, WroteFrontOf}
use Rattle.link_frames.specs.declared.lines.blocks.AheadFault.{AheadFault}
use Rattle.link_frames.specs.declared.lines.blocks.AheadFault.TheVariants as ahead
use Rattle.role_node.specs.Nodes.{NodeValue}
use Rattle.line_pipe.specs.Pipes.{answers_text, one_stops, stops, line_text, after_line, node_of}
use Rattle.cluster_text.specs.Setups.{setup_due}
use Rattle.cluster_text.specs.declared.cluster.Mode.TheVariants.{Pipe}
use Rattle.cluster_text.specs.declared.cluster.Setup.{Setup}
use Rattle.cluster_text.specs.declared.fault.ClusterFault.TheVariants.{NotJson}
use Rattle.line_pipe.specs.declared.fault.PipeFault.{PipeFault}
use Rattle.line_pipe.specs.declared.fault.PipeFault.TheVariants.{Cluster, Device, Memory}

abbrev pub of_ahead_fault : AheadFault → PipeFault
of_ahead_fault ahead.Device = Device
of_ahead_fault ahead.Memory = Memory

-- ---- the first line

-- a node that a setup of these bytes says
abbrev pub IsNodeOf : List ℕ → NodeValue → Type 0
IsNodeOf first node = (setup : Setup) × (setup_due Pipe first ≡ Ok setup) × (node ≡ node_of setup)

-- the fault that is due to the bytes, or want of memory
abbrev pub RefusesNode : List ℕ → PipeFault → Type 0
RefusesNode first (Cluster fault) = setup_due Pipe first ≡ Err fault
RefusesNode first Device = ⊥
RefusesNode first Memory = ⊤

-- The first line was read. It sets up a node; or it would, and no other line comes behind it; or it sets up none.
abbrev pub Opened : Lines → Lines → Result (Option NodeValue) PipeFault → Type 0
Opened old new (Ok (Some node)) =
    (first : List ℕ) × NoLineEnd first × Consumes old.unread new.unread (ended first) × IsNodeOf first node
Opened old new (Ok None) =
    (first : List ℕ) × HasBytes old.unread first × (lines_of first ≡ first ∷ []) × IsAtEnd new.at_device
    × ((setup : Setup) × (setup_due Pipe first ≡ Ok setup))
Opened old new (Err (Cluster fault)) =
    (input : List ℕ) × HasBytes old.unread input × ((lines_of input ≡ []) × (fault ≡ NotJson)
    ⊎ ((first : List ℕ) × (later : List (List ℕ)) × (lines_of input ≡ first ∷ later)
    × (setup_due Pipe first ≡ Err fault)))
Opened old new (Err Device) = ⊤
Opened old new (Err Memory) = ⊤

-- ---- client lines

-- the text of the answers to client lines
abbrev pub client_text : NodeValue → List ℕ → List ℕ
client_text node input = answers_text node (lines_of input)

-- a node that answers client lines, and the text of its answers that is held back
pub record Answering : Type 0 where
  pub node : NodeValue
  pub held : List ℕ

-- What comes next was answered: more lines may come, or the reader has ended or a line stopped the node.
abbrev pub Answered : Lines → Lines → Answering → Answering → Bool → Type 0
Answered old new before after true =
    (line : List ℕ) × NoLineEnd line × Consumes old.unread new.unread (ended line) × (stops before.node line ≡ false)
    × (after.node ≡ after_line before.node line) × (after.held ≡ before.held ++ ended (line_text before.node line))
Answered old new before after false =
    (tail : List ℕ) × HasBytes old.unread tail
    × (IsAtEnd new.at_device ⊎ (one_stops before.node (lines_of tail) ≡ true))
    × (after.held ≡ before.held ++ client_text before.node tail)

-- What running client lines does. At the end the reader has ended or a line stopped the node, and the text that is due
-- is written, and else a prefix of it.
abbrev pub LinesRan : NodeValue → Lines → Lines → Result (Unit {0}) PipeFault → Type 0
LinesRan node old new (Ok _) =
    (input : List ℕ) × HasBytes old.unread input
    × (IsAtEnd new.at_device ⊎ (one_stops node (lines_of input) ≡ true))
    × Appends old.written new.written (client_text node input)
LinesRan node old new (Err (Cluster fault)) = ⊥
LinesRan node old new (Err Device) = WroteFrontOf (client_text node) old new
LinesRan node old new (Err Memory) = WroteFrontOf (client_text node) old new

-- so many lines were read that there is no number for another, and the text that is due for them was written
abbrev pub LinesEndless : NodeValue → Lines → Lines → Type 0
LinesEndless node old new =
    (input : List ℕ) × (left : Option (List ℕ)) × Consumes old.unread left input
    × (2 ^ 64 - 2 ≤ length (lines_of input)) × Appends old.written new.written (client_text node input)

-- all that was held was written, or a prefix of it when the writer failed
abbrev pub Finished : Option (List ℕ) → Option (List ℕ) → List ℕ → Result (Unit {0}) PipeFault
    → Result (Unit {0}) PipeFault → Type 0 → Type 0
Finished writer_old writer_new held ending result Failed =
    ((result ≡ ending) × Appends writer_old writer_new held)
    ⊎ ((result ≡ Err Device) × AppendsFront writer_old writer_new held × Failed)
