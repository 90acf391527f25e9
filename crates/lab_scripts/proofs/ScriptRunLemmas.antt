-- A script that was run so far, and how it ends.
use Rattle.std.proofs.Common.{◌≡◌, ℕ, ◌+◌, ◌-◌, ◌^◌, ◌≤◌, Bool, true, false, List, []}
use Rattle.std.proofs.Common.{◌++◌, Option, Some, None, Ok, Err, sym, refl, subst, arith}
use Rattle.std.proofs.KnownBytes.{Appends-trans}
use Rattle.std.specs.Io.KnownBytes.{Appends, IsAtEnd, prepend_known}
use Rattle.link_frames.specs.lines.Blocks.{ReadAhead}
use Rattle.link_frames.specs.lines.Devices.{WentOn, ReaderFailed, AppendsFront}
use Rattle.link_frames.specs.lines.LinePrograms.{WroteFront, Moved}
use Rattle.link_frames.specs.lines.LinesAt.{Lines, devices}
use Rattle.link_frames.specs.lines.Lines.{ended}
use Rattle.link_frames.specs.lines.Watching.{Tally}
use Rattle.link_frames.specs.declared.lines.blocks.AheadFault.{AheadFault}
use Rattle.link_frames.specs.declared.lines.blocks.AheadFault.TheVariants as ahead
use Rattle.link_frames.proofs.Exported.{Ran-start, Ran-moved, Ran-front, Ran-good, Ran-text, Ran-number}
use Rattle.link_frames.proofs.Exported.{Ended, Ended-whole, WentOn-nothing, WentOn-trans, AppendsFront-nothing}
use Rattle.lab_scripts.specs.Runs.{ScriptRan, IsEndless}
use Rattle.lab_scripts.specs.Scripts.{Script, Unread, next, script_text}
use Rattle.lab_scripts.specs.Stages.{Follows}
use Rattle.lab_scripts.specs.Statuses.{of_ahead_fault}
use Rattle.lab_scripts.specs.inside.Steps.{Holds, ScriptRuns}
use Rattle.lab_scripts.specs.declared.fault.ScriptFault.TheVariants.{BadScript, Device, Memory}
use Rattle.lab_scripts.specs.declared.run.Took.{Took}
use Rattle.lab_scripts.specs.declared.stage.Stage.{Stage}
use Rattle.lab_scripts.specs.declared.stage.Stage.TheVariants.{Start}

-- ---- what a line did

pub Holds-bad : (due : Option (Script × List ℕ)) (stage : Stage) (old new : List ℕ) (good : Bool) →
    Holds due stage old new good
    → good ≡ false → (due ≡ None) × (new ≡ old)
Holds-bad None stage old new good holds e = (refl, holds.1)
Holds-bad (Some p) stage old new good holds e = cc

pub Holds-good : (due : Option (Script × List ℕ)) (stage : Stage) (old new : List ℕ) (good : Bool)
    → Holds due stage old new good → good ≡ true
    → (p : Script × List ℕ) × (due ≡ Some p) × Follows stage p.0 × (new ≡ old ++ ended p.1)
Holds-good None stage old new good holds e = cc
Holds-good (Some p) stage old new good holds e = (p, refl, holds.1, holds.2)

-- ---- the lines so far

-- what is kept follows the lines so far, their text was written or is held, and neither the reader nor the writer
-- failed
pub record RunsSoFar (stage : Stage) (first now : Lines) (held : List ℕ) (number : ℕ)
    (reader_old reader_new writer_old writer_new : Tally) : Type 0 where
  pub script : Script
  pub follows : Follows stage script
  pub ran : ScriptRuns first now held script number
  pub reader : WentOn reader_old reader_new
  pub writer : WentOn writer_old writer_new

-- nothing was read and nothing is held
pub run_starts : (first now : Lines) (front held : List ℕ) (reader writer : Tally) →
    now.unread ≡ prepend_known front first.unread → now.written ≡ first.written → front ≡ [] → held ≡ [] →
    RunsSoFar Start first now held 1 reader reader writer writer
unfolding Follows
run_starts first now front held reader writer ahead same none empty =
    let ran = Ran-start next Unread first.unread first.written front held none empty in record {
      script = Unread;
      follows = tt;
      ran = rw (ahead, same) ran;
      reader = WentOn-nothing reader;
      writer = WentOn-nothing writer;
    }

module _ {stage : Stage} {first now : Lines} {held : List ℕ} {number : ℕ} {r0 r1 w0 w1 : Tally}
    (so_far : RunsSoFar stage first now held number r0 r1 w0 w1) where
  -- some of what is held was written, and nothing was read
  pub run_moves : (c : Option (List ℕ)) (left : List ℕ) (w2 : Tally) → Moved now.written c held left → WentOn w1 w2
      → RunsSoFar stage first (record { unread = now.unread; at_device = now.at_device; written = c }) left number
      r0 r1 w0 w2
  run_moves c left w2 moved on = record {
    script = so_far.script;
    follows = so_far.follows;
    ran = Ran-moved so_far.ran c left moved;
    reader = so_far.reader;
    writer = WentOn-trans so_far.writer on;
  }

  -- one good line more
  pub run_goes_on : (after : Stage) (later : Lines) (holds : List ℕ) (r2 : Tally) (script : Script)
      → Follows after script → ScriptRuns first later holds script (number + 1) → WentOn r1 r2
      → RunsSoFar after first later holds (number + 1) r0 r2 w0 w1
  run_goes_on after later holds r2 script follows ran on = record {
    script = script;
    follows = follows;
    ran = ran;
    reader = WentOn-trans so_far.reader on;
    writer = so_far.writer;
  }

  -- a prefix of what is held was written, and no more
  pub run_breaks : (c : Option (List ℕ)) → AppendsFront now.written c held
      → WroteFront script_text first.unread first.written c
  run_breaks c part = Ran-front so_far.ran c part

  pub run_stops : WroteFront script_text first.unread first.written now.written
  run_stops = Ran-front so_far.ran now.written (AppendsFront-nothing now.written held)

  -- there is no number for another line
  pub run_is_endless : (left c : Option (List ℕ)) → 2 ^ 64 - 1 ≤ number → Appends now.written c held
      → IsEndless first (devices left c)
  run_is_endless left c many wrote =
      let ran = so_far.ran in (
        ran.done,
        now.unread,
        ran.read,
        omega (arith, Ran-number ran),
        Ran-good ran,
        subst (Appends first.written c) (sym (Ran-text ran))
            (Appends-trans first.written now.written c ran.sent held ran.wrote wrote),
      )

  -- the moments between which it was run
  abbrev pub first_of : Lines
  first_of = first

  abbrev pub written_of : Option (List ℕ)
  written_of = now.written

-- ---- how a script ends

pub ends_bad : {known a b : Option (List ℕ)} {held : List ℕ} {number : ℕ} (left c : Option (List ℕ))
    → Ended next Unread known a b held (Some number) → Appends b c held
    → ScriptRan (devices known a) (devices left c) (Err (BadScript number))
ends_bad left c end wrote = let whole = Ended-whole end c wrote in (whole.input, whole.has, whole.stops, whole.wrote)

pub ends_good : {known a b : Option (List ℕ)} {held : List ℕ} (left c : Option (List ℕ))
    → Ended next Unread known a b held None → IsAtEnd left → Appends b c held
    → ScriptRan (devices known a) (devices left c) (Ok tt)
ends_good left c end at_end wrote =
    let whole = Ended-whole end c wrote in (whole.input, whole.has, at_end, whole.stops, whole.wrote)

-- reading ahead has failed
pub ends_ahead : (known left a b : Option (List ℕ)) (f : AheadFault) → WroteFront script_text known a b
    → ScriptRan (devices known a) (devices left b) (Err (of_ahead_fault f))
ends_ahead known left a b ahead.Device wrote = wrote
ends_ahead known left a b ahead.Memory wrote = wrote

pub ahead_device : (t u : Tally) (f : AheadFault) → ReadAhead {X = Took} t u (Err f) → of_ahead_fault f ≡ Device
    → ReaderFailed t u
ahead_device t u ahead.Device failed e = failed
ahead_device t u ahead.Memory failed e = absurd (other e)
  where
    other : Memory ≡ Device → ⊥
    other e = cc
