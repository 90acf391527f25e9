use Rattle.link_frames.proofs.frame_lemmas.FrameLaws.{one_frame, frames_differ, length-frame}
use Rattle.link_frames.proofs.laws.one_frame.Goals as goal

pub returns-clause-one : goal.returns-clause-one
returns-clause-one c = one_frame

pub returns-clause-differ : goal.returns-clause-differ
returns-clause-differ c = frames_differ

pub returns-clause-len : goal.returns-clause-len
returns-clause-len c = length-frame
