use Rattle.link_frames.specs.lines.Watching.{watched_inner, watched_tally}
use Rattle.link_frames.specs.lines.Aheads.{pending}
use Rattle.link_frames.specs.lines.Devices.{WentOn}
use Rattle.link_frames.proofs.Exported.{Ran}
use Rattle.line_pipe.specs.Pipes.{going_on}
use Rattle.line_pipe.proofs.pipe.answer_lines.Given as goal

abbrev pub invariant-loop-number : goal.invariant-loop-number
invariant-loop-number g l =
    Ran going_on l.initial.node (pending (g.R.Read.remaining (watched_inner l.initial.reader)) l.initial.ahead)
    (pending (g.R.Read.remaining (watched_inner l.reader)) l.ahead)
    (g.W.Write.contents (watched_inner l.initial.writer)) (g.W.Write.contents
    (watched_inner l.writer)) l.held l.node l.number
    × WentOn (watched_tally l.initial.reader) (watched_tally l.reader)
    × WentOn (watched_tally l.initial.writer) (watched_tally l.writer)
