-- A watched reader or writer: what it is over, how often it was read, and how many of its calls have failed.
use Rattle.std.specs.Prelude.{ℕ, ◌+◌, ◌-◌, ◌^◌, ◌≤◌, min, Bool, true, false, not}
use Rattle.std.specs.Prelude.{◌&&◌, ◌==◌, nat_lt, if◌then◌else◌, Result, Ok, Err}
use Rattle.std.specs.IoError.{error_kind}
use Rattle.std.specs.declared.io.Error.{Error}
use Rattle.std.specs.declared.io.ErrorKind.{ErrorKind}
use Rattle.std.specs.declared.io.ErrorKind.TheVariants.{Interrupted}
use Rattle.link_frames.specs.declared.lines.watched.Watched.{Watched}

abbrev pub watched_inner : {T : Type 0} → Watched T → T
watched_inner w = w.inner

-- how many reads were made
abbrev pub watched_reads : {T : Type 0} → Watched T → ℕ
watched_reads w = w.reads

-- how many reads and writes answered an error, or wrote none of the bytes offered
abbrev pub watched_faults : {T : Type 0} → Watched T → ℕ
watched_faults w = w.faults

-- how many of those were no interruption
abbrev pub watched_breaks : {T : Type 0} → Watched T → ℕ
watched_breaks w = w.breaks

-- the three counts
pub record Tally : Type 0 where
  pub reads : ℕ
  pub faults : ℕ
  pub breaks : ℕ

abbrev pub watched_tally : {T : Type 0} → Watched T → Tally
watched_tally w = record { reads = w.reads; faults = w.faults; breaks = w.breaks }

-- ---- a call and the counts

-- the greatest count
abbrev pub most_count : ℕ
most_count = 2 ^ 64 - 1

-- one more, up to the greatest value
abbrev pub one_more : ℕ → ℕ
one_more n = min (n + 1) most_count

-- the count after a call that counts or doesn't
abbrev pub count_after : Bool → ℕ → ℕ
count_after counts n = if counts then one_more n else n

-- a count has risen by k at least, or to its greatest value
abbrev pub RoseBy : ℕ → ℕ → ℕ → Type 0
RoseBy k old new = min (old + k) most_count ≤ new

abbrev pub is_interruption : ErrorKind → Bool
is_interruption Interrupted = true
is_interruption _ = false

-- a read fails by an error
abbrev pub read_fails : {E : Type 0} → Result ℕ E → Bool
read_fails (Ok n) = false
read_fails (Err e) = true

-- a read breaks by an error that is no interruption
abbrev pub read_breaks : Result ℕ Error → Bool
read_breaks (Ok n) = false
read_breaks (Err e) = not (is_interruption (error_kind e))

-- a write of so many bytes fails by an error, or by taking none of them where there are some
abbrev pub write_fails : {E : Type 0} → ℕ → Result ℕ E → Bool
write_fails offered (Ok n) = (n == 0) && nat_lt 0 offered
write_fails offered (Err e) = true

-- a write breaks by an error that is no interruption, or by taking no byte where there are some
abbrev pub write_breaks : ℕ → Result ℕ Error → Bool
write_breaks offered (Ok n) = (n == 0) && nat_lt 0 offered
write_breaks offered (Err e) = not (is_interruption (error_kind e))
