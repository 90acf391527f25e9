use Rattle.std.proofs.Common.{◌≡◌, ◌-◌, length, drop, arith, length-take, length-drop}
use borrow.Rule.Slice.PartMut.{put_mid, same_len_mid}
use Rattle.link_frames.specs.lines.Watching.{watched_tally}
use Rattle.cluster_text.proofs.FileLemmas.{filled_more}
use Rattle.cluster_text.proofs.cluster_file.fill.Goals as goal

pub loop-have-preserved : goal.loop-have-preserved
loop-have-preserved g c =
    let so_far = c.loop-have.invariant in
    let have = c.loop-have.have in
    let buffer = c.loop-have.buffer in
    let rest = c.read_patiently.new.buffer in
    let read = c.in_ok-count.ensures in
    let room : length rest ≡ length buffer - have =
    omega (
      arith,
      c.read_patiently.auto.buffer,
      length-take (length buffer - have) (drop have buffer),
      length-drop have buffer,
    ) in
    let len : length (put_mid have (length buffer - have) buffer rest) ≡ length buffer =
    same_len_mid _ _ _ _ c.read_patiently.auto.buffer in
    filled_more _ (watched_tally c.read_patiently.new.reader) _ c.in_ok-count.count rest so_far read.bound.0
    (omega (arith, len, room, read.bound.0, so_far.within)) read.bytes.0 read.ok
