use Rattle.link_frames.proofs.frame_lemmas.FrameStreamLemmas.{frames_are_one}
use Rattle.link_frames.proofs.laws.one_cut.Goals as goal

pub returns : goal.returns
returns c = frames_are_one
