use Rattle.std.proofs.Common.{◌-◌, length}
use Rattle.link_frames.specs.lines.Watching.{watched_inner, watched_tally}
use Rattle.link_frames.proofs.line_lemmas.WriteLemmas.{Sent}
use Rattle.link_frames.proofs.lines.device.write_whole.Given as goal

abbrev pub invariant-loop-sent : goal.invariant-loop-sent
invariant-loop-sent g l =
    Sent (g.W.Write.contents (watched_inner l.initial.writer)) (g.W.Write.contents (watched_inner l.writer))
    (watched_tally l.initial.writer) (watched_tally l.writer) l.bytes l.sent

abbrev pub decreases-loop-sent : goal.decreases-loop-sent
decreases-loop-sent g l = length l.bytes - l.sent
