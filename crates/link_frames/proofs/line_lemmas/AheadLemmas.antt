-- Reading ahead in several blocks.
use Rattle.std.proofs.Common.{ℕ, ◌+◌, ◌≤◌, max, List, Option}
use Rattle.std.specs.Io.KnownBytes.{Keeps}
use Rattle.link_frames.specs.lines.Watching.{Tally}
use Rattle.link_frames.specs.lines.Devices.{WentOn}
use Rattle.link_frames.specs.lines.Blocks.{block_bytes}

-- blocks were read, and nothing was used up
pub record Looked (before now : Option (List ℕ)) (old new : Tally) (held_old held_new limit : ℕ) : Type 0 where
  pub kept : Keeps before now
  pub went : WentOn old new
  pub held : held_new ≤ max held_old (limit + block_bytes)
