use Rattle.std.proofs.Common.{◌-◌, length}
use Rattle.link_frames.specs.lines.Watching.{watched_inner, watched_tally}
use Rattle.cluster_text.proofs.FileLemmas.{Filling}
use Rattle.cluster_text.proofs.cluster_file.fill.Given as goal

abbrev pub invariant-loop-have : goal.invariant-loop-have
invariant-loop-have g l =
    Filling (g.R.Read.remaining (watched_inner l.initial.reader)) (g.R.Read.remaining (watched_inner l.reader))
    (watched_tally l.initial.reader) (watched_tally l.reader) l.buffer l.have

abbrev pub decreases-loop-have : goal.decreases-loop-have
decreases-loop-have g l = length l.buffer - l.have
