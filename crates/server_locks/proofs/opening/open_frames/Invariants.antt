use Rattle.server_locks.proofs.OpenedLemmas.{OpenedSoFar}
use Rattle.server_locks.proofs.opening.open_frames.Given as goal

abbrev pub invariant-loop-frame : goal.invariant-loop-frame
invariant-loop-frame g l =
    OpenedSoFar (g.K.FrameKeys.opened l.fn.keys) (g.K.FrameKeys.peer_of l.fn.keys) l.fn.peer l.frames
    l.frame-index l.opened.peer l.opened.unopened l.packets.items
