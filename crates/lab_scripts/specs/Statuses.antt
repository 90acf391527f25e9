-- The faults of a script: which fault of the lines that are read ahead it is, and the exit status of the program at
-- each.
use Rattle.std.specs.Prelude.{ℕ}
use Rattle.link_frames.specs.declared.lines.blocks.AheadFault.{AheadFault}
use Rattle.link_frames.specs.declared.lines.blocks.AheadFault.TheVariants as ahead
use Rattle.lab_scripts.specs.declared.fault.ScriptFault.{ScriptFault}
use Rattle.lab_scripts.specs.declared.fault.ScriptFault.TheVariants.{BadScript, Device, Memory}

abbrev pub of_ahead_fault : AheadFault → ScriptFault
of_ahead_fault ahead.Device = Device
of_ahead_fault ahead.Memory = Memory

abbrev pub status_of : ScriptFault → ℕ
status_of (BadScript line) = 3
status_of Device = 4
status_of Memory = 5
