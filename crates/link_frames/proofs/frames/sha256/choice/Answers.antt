use Rattle.std.proofs.Common.{arith}
use Rattle.link_frames.proofs.frame_lemmas.Choices.{one_choice, ch_chooses, turned_chooses}
use Rattle.link_frames.proofs.frames.sha256.choice.Goals as goal

pub returns : goal.returns
returns c =
    let a = c.args in
    one_choice a.by a.ones a.zeros _ _ (turned_chooses a.by a.ones a.zeros (omega arith) (omega arith))
    (ch_chooses a.by a.ones a.zeros (omega arith) (omega arith) (omega arith))
