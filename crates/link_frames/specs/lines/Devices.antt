-- How patiently a reader or a writer is asked, and when it has failed.
use Rattle.std.specs.Prelude.{◌≡◌, ℕ, ◌+◌, ◌<◌, ◌≤◌, ◌⊎◌, List, ◌++◌, Option}
use Rattle.std.specs.Io.KnownBytes.{Appends}
use Rattle.link_frames.specs.lines.Watching.{Tally, most_count, one_more, RoseBy}

-- how often in a row an interrupted call is made again at most
abbrev pub most_retries : ℕ
most_retries = 1024

-- no call broke; some may have been made, and some interrupted
pub record WentOn (old new : Tally) : Type 0 where
  pub reads : RoseBy 0 old.reads new.reads
  pub faults : RoseBy 0 old.faults new.faults
  pub unbroken : new.breaks ≡ old.breaks

-- reads were made, and counted
abbrev pub WasAsked : Tally → Tally → Type 0
WasAsked old new = (old.reads < new.reads) × (new.reads ≤ most_count)

-- one call broke, and none else
pub record Broke (old new : Tally) : Type 0 where
  pub faults : RoseBy 1 old.faults new.faults
  pub broke : new.breaks ≡ one_more old.breaks

-- no call broke, and they were interrupted once more than one call is made again
pub record WasStopped (old new : Tally) : Type 0 where
  pub faults : RoseBy (most_retries + 1) old.faults new.faults
  pub unbroken : new.breaks ≡ old.breaks

-- no call broke, and the reads are as many as can be counted
pub record WasReadOut (old new : Tally) : Type 0 where
  pub reads : most_count ≤ new.reads
  pub unbroken : new.breaks ≡ old.breaks

-- a device has failed
abbrev pub CallFailed : Tally → Tally → Type 0
CallFailed old new = Broke old new ⊎ WasStopped old new

-- a reader has failed also where it was asked as often as can be counted
abbrev pub ReaderFailed : Tally → Tally → Type 0
ReaderFailed old new = CallFailed old new ⊎ WasReadOut old new

-- some front of the text was written, and nothing else
abbrev pub AppendsFront : Option (List ℕ) → Option (List ℕ) → List ℕ → Type 0
AppendsFront old new text = (front : List ℕ) × (rest : List ℕ) × (text ≡ front ++ rest) × Appends old new front
