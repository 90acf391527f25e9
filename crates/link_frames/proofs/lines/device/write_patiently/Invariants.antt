use Rattle.std.proofs.Common.{◌≡◌}
use Rattle.link_frames.specs.lines.Watching.{watched_inner, watched_reads, watched_tally}
use Rattle.link_frames.proofs.line_lemmas.CallLemmas.{Waited}
use Rattle.link_frames.proofs.lines.device.write_patiently.Given as goal

abbrev pub invariant-loop-tries : goal.invariant-loop-tries
invariant-loop-tries g l =
    Waited (g.W.Write.contents (watched_inner l.initial.writer)) (g.W.Write.contents (watched_inner l.writer))
    (watched_tally l.initial.writer) (watched_tally l.writer) l._tries
    × (watched_reads l.writer ≡ watched_reads l.initial.writer)
