use Rattle.std.proofs.Common.{◌∙◌, ap, subst, take}
use Rattle.link_frames.specs.frames.FrameStreams.{AreFramesOf}
use Rattle.frame_queues.proofs.frame_block.FrameBlock.frames.Goals as goal

pub returns-clause-frames : goal.returns-clause-frames
returns-clause-frames c =
    subst (λ bytes. AreFramesOf bytes c.frames_of.result.0.now)
    (ap (take c.self.inside.have) c.deref.ensures.value ∙ c.self.view_is) c.frames_of.ensures.frames
