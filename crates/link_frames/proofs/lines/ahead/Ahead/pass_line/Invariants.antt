use Rattle.std.proofs.Common.{◌-◌}
use Rattle.link_frames.specs.lines.Watching.{most_count, watched_inner, watched_reads, watched_tally}
use Rattle.link_frames.specs.lines.Aheads.{front_of, held_bytes, pending}
use Rattle.link_frames.proofs.line_lemmas.PassedLineLemmas.{Passing}
use Rattle.link_frames.proofs.lines.ahead.Ahead.pass_line.Given as goal

abbrev pub invariant-loop-self : goal.invariant-loop-self
invariant-loop-self g l =
    Passing (front_of l.initial.self) (front_of l.self)
    (pending (g.R.Read.remaining (watched_inner l.initial.reader)) l.initial.self)
    (pending (g.R.Read.remaining (watched_inner l.reader)) l.self)
    (watched_tally l.initial.reader) (watched_tally l.reader) (held_bytes l.initial.self) (held_bytes l.self)

-- each block is asked for by a read, and the reads are counted
abbrev pub decreases-loop-self : goal.decreases-loop-self
decreases-loop-self g l = most_count - watched_reads l.reader
