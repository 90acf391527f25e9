-- Blocks of bytes that are read behind others.
use Rattle.std.specs.Prelude.{◌≡◌, ℕ, List, ◌++◌, length, Option, Result, Ok, Err}
use Rattle.std.specs.Io.KnownBytes.{Consumes, IsAtEnd}
use Rattle.link_frames.specs.lines.Watching.{Tally}
use Rattle.link_frames.specs.lines.Devices.{WentOn, ReaderFailed}
use Rattle.link_frames.specs.declared.lines.blocks.AheadFault.{AheadFault}
use Rattle.link_frames.specs.declared.lines.blocks.AheadFault.TheVariants.{Device, Memory}

-- how many bytes are read at once
abbrev pub block_bytes : ℕ
block_bytes = 8192

-- so many of the reader's bytes were put behind others, and none only at its end
pub record Onto (before after : Option (List ℕ)) (old new : List ℕ) (count : ℕ) : Type 0 where
  pub given : List ℕ
  pub counted : length given ≡ count
  pub read : Consumes before after given
  pub behind : new ≡ old ++ given
  pub end : count ≡ 0 → IsAtEnd after

-- what reading ahead does to the counts of the reader
abbrev pub ReadAhead : {X : Type 0} → Tally → Tally → Result X AheadFault → Type 0
ReadAhead old new (Ok x) = WentOn old new
ReadAhead old new (Err Device) = ReaderFailed old new
ReadAhead old new (Err Memory) = WentOn old new
