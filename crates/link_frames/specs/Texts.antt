-- How a fault is written: its code, a space and its name.
use Rattle.std.specs.Prelude.{ℕ, List, codes}
use Rattle.link_frames.specs.declared.lines.blocks.AheadFault.{AheadFault}
use Rattle.link_frames.specs.declared.lines.blocks.AheadFault.TheVariants as aheads
use Rattle.link_frames.specs.declared.frames.keys.KeyFault.{KeyFault}
use Rattle.link_frames.specs.declared.frames.keys.KeyFault.TheVariants.{WrongCount, Memory}
use Rattle.link_frames.specs.declared.frames.opening.LinkFault.{LinkFault}
use Rattle.link_frames.specs.declared.frames.opening.LinkFault.TheVariants as links
use Rattle.link_frames.specs.declared.frames.reading.ReadFault.{ReadFault}
use Rattle.link_frames.specs.declared.frames.reading.ReadFault.TheVariants.{Truncated, Device, TooManyTurns}

abbrev pub key_fault_text : KeyFault → List ℕ
key_fault_text WrongCount = codes "K1 WrongCount"
key_fault_text Memory = codes "out of memory"

abbrev pub ahead_fault_text : AheadFault → List ℕ
ahead_fault_text aheads.Device = codes "device"
ahead_fault_text aheads.Memory = codes "out of memory"

abbrev pub read_fault_text : ReadFault → List ℕ
read_fault_text (Truncated k) = codes "P1 Truncated"
read_fault_text Device = codes "P2 Device"
read_fault_text TooManyTurns = codes "P3 TooManyTurns"

abbrev pub link_fault_text : LinkFault → List ℕ
link_fault_text links.Length = codes "L1 Length"
link_fault_text links.Version = codes "L2 Version"
link_fault_text links.Cluster = codes "L3 Cluster"
link_fault_text links.NotForMe = codes "L4 NotForMe"
link_fault_text links.NoSuchNode = codes "L5 NoSuchNode"
link_fault_text links.BadTag = codes "L6 BadTag"
link_fault_text links.BadKind = codes "L7 BadKind"
link_fault_text links.BadOwner = codes "L8 BadOwner"
link_fault_text links.BadCommand = codes "L9 BadCommand"
link_fault_text links.SendNotByOwner = codes "L10 SendNotByOwner"
link_fault_text links.BadPlace = codes "L11 BadPlace"
