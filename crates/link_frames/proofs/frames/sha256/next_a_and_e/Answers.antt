use Rattle.std.proofs.Common.{slice_index, arith}
use Rattle.link_frames.proofs.frame_lemmas.FourLanes.{four}
use Rattle.link_frames.proofs.frame_lemmas.Rounds.{found}
use Rattle.link_frames.proofs.frames.sha256.next_a_and_e.Goals as goal

pub returns : goal.returns
returns c = λ k w e.
    let x = slice_index c.args.abcd in
    let y = slice_index c.args.efgh in
    rw (
      c.choice.ensures,
      c.rotations.ensures,
      c.rotations-2.ensures,
      c.majority.ensures,
      four c.args.abcd (omega arith),
      four c.args.efgh (omega arith),
    )
    (found (x 0) (x 1) (x 2) (x 3) (y 0) (y 1) (y 2) (y 3) c.args.sum k w e)
