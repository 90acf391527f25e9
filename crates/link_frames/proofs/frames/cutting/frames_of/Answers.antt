use Rattle.link_frames.proofs.frame_lemmas.FrameStreamLemmas.{frames_are}
use Rattle.link_frames.proofs.frames.cutting.frames_of.Goals as goal

pub returns-clause-frames : goal.returns-clause-frames
returns-clause-frames c = frames_are _ _ c.as_chunks.ensures.front
