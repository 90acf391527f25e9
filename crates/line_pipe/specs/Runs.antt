-- What running a pipe does to its reader and writer.
use Rattle.std.specs.Prelude.{◌≡◌, ℕ, ◌-◌, ◌^◌, ◌≤◌, ◌⊎◌, true, List, length, Option, None, Some, Result, Ok, Err}
use Rattle.std.specs.Io.KnownBytes.{Consumes, Appends, Keeps, IsAtEnd}
use Rattle.link_frames.specs.lines.Lines.{lines_of}
use Rattle.link_frames.specs.lines.LinePrograms.{HasBytes}
use Rattle.link_frames.specs.lines.LinesAt.{Lines, WroteFrontOf}
use Rattle.line_pipe.specs.Pipes.{pipe_text, opening_fault, pipe_stops}
use Rattle.line_pipe.specs.declared.fault.PipeFault.{PipeFault}
use Rattle.line_pipe.specs.declared.fault.PipeFault.TheVariants.{Cluster, Device, Memory}

-- At the end the reader has ended or a line stopped the node, and the text that is due is written. Where the first line
-- sets up no node nothing is written, and else a prefix of the text.
abbrev pub PipeRan : Lines → Lines → Result (Unit {0}) PipeFault → Type 0
PipeRan old new (Ok _) =
    (input : List ℕ) × HasBytes old.unread input × (opening_fault input ≡ None)
    × (IsAtEnd new.at_device ⊎ (pipe_stops input ≡ true)) × Appends old.written new.written (pipe_text input)
PipeRan old new (Err (Cluster fault)) =
    (input : List ℕ) × HasBytes old.unread input × (opening_fault input ≡ Some fault) × Keeps old.written new.written
PipeRan old new (Err Device) = WroteFrontOf pipe_text old new
PipeRan old new (Err Memory) = WroteFrontOf pipe_text old new

-- so many lines were read that there is no number for another, and the text that is due for them was written
abbrev pub IsEndless : Lines → Lines → Type 0
IsEndless old new =
    (input : List ℕ) × (left : Option (List ℕ)) × Consumes old.unread left input
    × (2 ^ 64 - 2 ≤ length (lines_of input)) × Appends old.written new.written (pipe_text input)
