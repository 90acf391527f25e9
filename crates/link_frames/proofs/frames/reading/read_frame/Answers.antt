use Rattle.std.proofs.Common.{◌≡◌, ◌+◌, ◌-◌, ◌<◌, ◌≤◌, length, drop, arith, sym, le_refl, length-take, length-drop}
use Rattle.std.proofs.lemmas.Slice.{take-put_mid_below}
use borrow.Rule.Slice.PartMut.{same_len_mid}
use Rattle.link_frames.specs.frames.Layout.{frame_len}
use Rattle.link_frames.specs.lines.Watching.{watched_tally}
use Rattle.link_frames.proofs.frame_lemmas.FrameReadLemmas.{failed, interrupted, gave_more, front_read}
use Rattle.link_frames.proofs.frames.reading.read_frame.Goals as goal
use Rattle.link_frames.proofs.frames.reading.read_frame.Goals.{in-Ok+else-have-eq-FRAME_LEN, in-Err}

pub returns-in-Err-2 : goal.returns-in-Err-2
returns-in-Err-2 g c =
    let broke = rw (sym c.if-is_interruption.ensures) at c.in-Err.ensures.breaks in
    failed _ (watched_tally c.read.new.self) c.loop.invariant c.in-Err.ensures.bytes (omega arith)
    c.in-Err.ensures.faults c.in-Err.ensures.reads broke

pub loop-preserved : goal.loop-preserved
loop-preserved g c =
    let so_far = c.loop.invariant in
    let have = c.loop.have in
    let frame = c.loop.frame in
    let within : have ≤ length frame = omega (arith, so_far.part, so_far.len) in
    elim c.match-read.branch [
      | in-Ok+else-have-eq-FRAME_LEN w ↦
          let given = w.in-Ok.ensures in
          let n = w.in-Ok.n in
          let room : length c.read.new.buf ≡ frame_len - have =
          omega (
            arith,
            c.read.auto.buf,
            length-take (frame_len - have) (drop have frame),
            length-drop have frame,
            so_far.len,
          ) in
          let some : 0 < n = omega (arith, w.in-Ok.n-test.1) in
          let part : have + n < frame_len =
          omega (arith, room, given.bound.0, so_far.part, w.if-have-eq-FRAME_LEN.false) in
          let len = same_len_mid _ _ _ _ c.read.auto.buf in
          let front = front_read _ _ _ _ _ within given.bound.0 in
          rw w.have-is
          (gave_more _ n _ _ _ so_far given.bytes.0 given.faults given.reads given.breaks some part len front)
      | in-Err w ↦
          let again = rw (sym w.if-is_interruption.ensures) at w.in-Err.ensures.breaks in
          let len = same_len_mid _ _ _ _ c.read.auto.buf in
          let front = take-put_mid_below _ _ _ _ _ (le_refl _) within in
          let given = w.in-Err.ensures in
          rw w.have-is (interrupted _ _ _ so_far given.bytes given.faults given.reads again len front)
    ]
