use Rattle.std.proofs.Common.{arith}
use Rattle.link_frames.proofs.frame_lemmas.Turns.{first_four}
use Rattle.link_frames.proofs.frames.sha256.four_from.Goals as goal

pub returns : goal.returns
returns c = λ b e. first_four b c.args.words.now c.args.at e (omega arith)
