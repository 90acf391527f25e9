use Rattle.link_frames.specs.lines.Watching.{watched_inner, watched_tally}
use Rattle.link_frames.proofs.line_lemmas.CallLemmas.{Waited}
use Rattle.link_frames.proofs.lines.device.read_patiently.Given as goal

abbrev pub invariant-loop-tries : goal.invariant-loop-tries
invariant-loop-tries g l =
    Waited (g.R.Read.remaining (watched_inner l.initial.reader)) (g.R.Read.remaining (watched_inner l.reader))
    (watched_tally l.initial.reader) (watched_tally l.reader) l._tries
