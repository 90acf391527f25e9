-- Calls that were made again, and calls one after another.
use Rattle.std.proofs.Common.{◌≡◌, ℕ, ◌+◌, ◌≤◌, inl, inr, refl, arith, ◌∙◌, List, Option}
use Rattle.std.specs.Io.KnownBytes.{Keeps}
use Rattle.link_frames.specs.lines.Watching.{Tally, RoseBy}
use Rattle.link_frames.specs.lines.Devices.{WentOn, CallFailed, ReaderFailed}

-- a call was made again and again, and was interrupted each time
pub record Waited (before now : Option (List ℕ)) (old new : Tally) (tries : ℕ) : Type 0 where
  pub kept : Keeps before now
  pub reads : RoseBy 0 old.reads new.reads
  pub faults : RoseBy tries old.faults new.faults
  pub few : new.faults ≤ old.faults + tries
  pub unbroken : new.breaks ≡ old.breaks

pub WentOn-nothing : (now : Tally) → WentOn now now
WentOn-nothing now = record { reads = omega arith; faults = omega arith; unbroken = refl }

pub WentOn-trans : {a b c : Tally} → WentOn a b → WentOn b c → WentOn a c
WentOn-trans first next = record {
  reads = omega (arith, first.reads, next.reads);
  faults = omega (arith, first.faults, next.faults);
  unbroken = next.unbroken ∙ first.unbroken;
}

-- a call failed after others that did not
pub CallFailed-later : (a b c : Tally) → WentOn a b → CallFailed b c → CallFailed a c
CallFailed-later a b c first (inl broke) = inl (record {
  faults = omega (arith, first.faults, broke.faults);
  broke = omega (arith, first.unbroken, broke.broke);
})
CallFailed-later a b c first (inr stopped) = inr (record {
  faults = omega (arith, first.faults, stopped.faults);
  unbroken = stopped.unbroken ∙ first.unbroken;
})

pub ReaderFailed-later : (a b c : Tally) → WentOn a b → ReaderFailed b c → ReaderFailed a c
ReaderFailed-later a b c first (inl failed) = inl (CallFailed-later a b c first failed)
ReaderFailed-later a b c first (inr out) = inr (record { reads = out.reads; unbroken = out.unbroken ∙ first.unbroken })
