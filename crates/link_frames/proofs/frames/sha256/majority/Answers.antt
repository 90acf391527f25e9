use Rattle.std.proofs.Common.{bit_xor, ◌∙◌, arith}
use Rattle.std.proofs.lemmas.Nat.{xor_of_32}
use Rattle.link_frames.proofs.frame_lemmas.Choices.{one_choice, ch_chooses, maj_chooses}
use Rattle.link_frames.proofs.frames.sha256.majority.Goals as goal

pub returns : goal.returns
returns c =
    let a = c.args in
    let differ = bit_xor a.x a.y in
    c.choice.ensures
    ∙ one_choice differ a.z a.y _ _
    (ch_chooses differ a.z a.y (xor_of_32 a.x a.y (omega arith) (omega arith)) (omega arith) (omega arith))
    (maj_chooses a.x a.y a.z (omega arith) (omega arith))
