use Rattle.std.specs.Prelude.{◌≡◌, ◌⊎◌, None, length}
use Rattle.frame_queues.specs.Unsent.{unsent}
use Rattle.server_locks.specs.Lines.{HasGone}
use Rattle.server_locks.proofs.outbox.write_all.Given as goal

abbrev pub invariant-loop-since : goal.invariant-loop-since
invariant-loop-since g l =
    HasGone (g.W.Write.contents l.initial.writer) (g.W.Write.contents l.writer) l.initial.unsent l.unsent
    × ((l.since ≡ None) ⊎ (l.since ≡ l.fn.full_since))

abbrev pub decreases-loop-since : goal.decreases-loop-since
decreases-loop-since g l = length (unsent l.unsent)
