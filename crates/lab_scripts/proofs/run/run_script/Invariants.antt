use Rattle.link_frames.specs.lines.LinesAt.{devices_at, lines_at}
use Rattle.link_frames.specs.lines.Watching.{watched_inner, watched_tally}
use Rattle.lab_scripts.proofs.ScriptRunLemmas.{RunsSoFar}
use Rattle.lab_scripts.proofs.run.run_script.Given as goal

abbrev pub invariant-loop-number : goal.invariant-loop-number
invariant-loop-number g l =
    RunsSoFar l.stage (devices_at g.R.Read.remaining g.W.Write.contents l.fn.reader l.fn.writer)
    (lines_at g.R.Read.remaining l.reader l.ahead (g.W.Write.contents (watched_inner l.writer))) l.held l.number
    (watched_tally l.fn.reader) (watched_tally l.reader) (watched_tally l.fn.writer) (watched_tally l.writer)
