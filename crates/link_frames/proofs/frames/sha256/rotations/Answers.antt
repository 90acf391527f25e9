use Rattle.std.proofs.Common.{arith}
use Rattle.link_frames.proofs.frame_lemmas.Rotations.{by_differences}
use Rattle.link_frames.proofs.frames.sha256.rotations.Goals as goal

pub returns : goal.returns
returns c =
    let a = c.args in
    rw (c.rotate_right-3.ensures, c.rotate_right-2.ensures, c.rotate_right.ensures)
    (by_differences a.word a.least a.middle a.most (omega arith) (omega arith) (omega arith) (omega arith)
    (omega arith))
