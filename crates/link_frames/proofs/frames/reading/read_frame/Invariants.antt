use Rattle.link_frames.specs.lines.Watching.{watched_inner, watched_tally}
use Rattle.link_frames.proofs.frame_lemmas.FrameReadLemmas.{HasRead}
use Rattle.link_frames.proofs.frames.reading.read_frame.Given as goal

abbrev pub invariant-loop : goal.invariant-loop
invariant-loop g l =
    HasRead (g.R.Read.remaining (watched_inner l.initial.reader)) (g.R.Read.remaining (watched_inner l.reader))
    (watched_tally l.initial.reader) (watched_tally l.reader) l.counter l.have l.frame
