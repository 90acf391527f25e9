-- What running a script does to its reader and writer.
use Rattle.std.specs.Prelude.{◌≡◌, ℕ, ◌-◌, ◌^◌, ◌≤◌, List, length, Option, Some, None, Result, Ok, Err}
use Rattle.std.specs.Io.KnownBytes.{Consumes, Appends, IsAtEnd}
use Rattle.link_frames.specs.lines.Lines.{lines_of}
use Rattle.link_frames.specs.lines.LinePrograms.{HasBytes}
use Rattle.link_frames.specs.lines.LinesAt.{Lines, WroteFrontOf}
use Rattle.lab_scripts.specs.Scripts.{script_text, first_bad}
use Rattle.lab_scripts.specs.declared.fault.ScriptFault.{ScriptFault}
use Rattle.lab_scripts.specs.declared.fault.ScriptFault.TheVariants.{BadScript, Device, Memory}

-- At the end the text of all that the reader had is written. At a bad line, which is the first, the text of the lines
-- before it is written, and else a prefix of the text.
abbrev pub ScriptRan : Lines → Lines → Result (Unit {0}) ScriptFault → Type 0
ScriptRan old new (Ok _) =
    (input : List ℕ) × HasBytes old.unread input × IsAtEnd new.at_device × (first_bad input ≡ None)
    × Appends old.written new.written (script_text input)
ScriptRan old new (Err (BadScript line)) =
    (input : List ℕ) × HasBytes old.unread input × (first_bad input ≡ Some line)
    × Appends old.written new.written (script_text input)
ScriptRan old new (Err Device) = WroteFrontOf script_text old new
ScriptRan old new (Err Memory) = WroteFrontOf script_text old new

-- so many lines were read that there is no number for another, none of them bad, and the text of all of them was
-- written
abbrev pub IsEndless : Lines → Lines → Type 0
IsEndless old new =
    (input : List ℕ) × (left : Option (List ℕ)) × Consumes old.unread left input
    × (2 ^ 64 - 2 ≤ length (lines_of input)) × (first_bad input ≡ None)
    × Appends old.written new.written (script_text input)
