-- How many commands have a supporter.
use Rattle.std.specs.Prelude.{◌≡◌, ◌≢◌, ◌<◌, ◌+◌, ◌↔◌, ℕ, List, length, AllPairs, Contains}
use Rattle.std.specs.FinSet as sets
use Rattle.role_commands.specs.declared.command.Command.{Command}
use Rattle.link_frames.specs.declared.frames.kind.Kind.TheVariants.{Echo, Ready}
use Rattle.bracha_instance.specs.Broadcast.{Take, supporters}

-- the vote of some node, of the one kind or the other, is for c
abbrev pub IsSupported : List Take → Command → Type 0
IsSupported takes c = 0 < sets.len (supporters Echo c takes) + sets.len (supporters Ready c takes)

-- these are the commands that have a supporter, each once
pub record AreSupported (takes : List Take) (commands : List Command) : Type 0 where
  pub once : AllPairs ◌≢◌ commands
  pub each : (c : Command) → Contains commands c ↔ IsSupported takes c

-- so many commands have a supporter
abbrev pub CountsSupported : List Take → ℕ → Type 0
CountsSupported takes count = (commands : List Command) × AreSupported takes commands × (length commands ≡ count)
