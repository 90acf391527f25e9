use Rattle.std.proofs.Common.{◌+◌, ◌-◌, length}
use Rattle.link_frames.specs.lines.Watching.{watched_inner, watched_tally}
use Rattle.link_frames.specs.lines.Aheads.{front_of, held_bytes, pending}
use Rattle.link_frames.proofs.line_lemmas.AheadLemmas.{Looked}
use Rattle.link_frames.proofs.lines.ahead.Ahead.peek.Given as goal

abbrev pub invariant-loop-next : goal.invariant-loop-next
invariant-loop-next g l =
    Looked (pending (g.R.Read.remaining (watched_inner l.initial.reader)) l.initial.self)
    (pending (g.R.Read.remaining (watched_inner l.reader)) l.self)
    (watched_tally l.initial.reader) (watched_tally l.reader) (held_bytes l.initial.self) (held_bytes l.self) l.limit

-- a line is known to be too long once so many bytes are ahead
abbrev pub decreases-loop-next : goal.decreases-loop-next
decreases-loop-next g l = l.limit + 1 - length (front_of l.self)
