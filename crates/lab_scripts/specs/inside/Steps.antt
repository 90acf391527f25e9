-- What taking the next line of a script does.
use Rattle.std.specs.Prelude.{◌≡◌, ℕ, ◌+◌, Bool, true, false, List, ◌++◌, Option, Some, None}
use Rattle.std.specs.Io.KnownBytes.{IsAtEnd}
use Rattle.link_frames.specs.lines.Lines.{ended}
use Rattle.link_frames.specs.lines.LinesAt.{Lines}
use Rattle.link_frames.proofs.Exported.{RanBetween, EndedBetween}
use Rattle.lab_scripts.specs.Scripts.{Script, Unread, next}
use Rattle.lab_scripts.specs.Stages.{Follows}
use Rattle.lab_scripts.specs.declared.run.Took.{Took}
use Rattle.lab_scripts.specs.declared.run.Took.TheVariants.{Line, BadLine, All}
use Rattle.lab_scripts.specs.declared.stage.Stage.{Stage}

-- whether a line is good, and what is held then
abbrev pub Holds : Option (Script × List ℕ) → Stage → List ℕ → List ℕ → Bool → Type 0
Holds None stage held_old held_new good = (good ≡ false) × (held_new ≡ held_old)
Holds (Some due) stage held_old held_new good =
    (good ≡ true) × Follows stage due.0 × (held_new ≡ held_old ++ ended due.1)

-- a script that was run so far
abbrev pub ScriptRuns : Lines → Lines → List ℕ → Script → ℕ → Type 0
ScriptRuns = RanBetween next Unread

-- a script that ends, at a bad line or at none
abbrev pub ScriptEnds : Lines → Lines → List ℕ → Option ℕ → Type 0
ScriptEnds = EndedBetween next Unread

-- What the next line does to a script that was run so far: it was good; it is bad; or nothing comes behind what was
-- read.
abbrev pub IsTaken : Took → Lines → Lines → List ℕ → Stage → ℕ → Type 0
IsTaken Line first now held stage number =
    (script : Script) × Follows stage script × ScriptRuns first now held script (number + 1)
IsTaken BadLine first now held stage number = ScriptEnds first now held (Some number)
IsTaken All first now held stage number = ScriptEnds first now held None × IsAtEnd now.at_device
