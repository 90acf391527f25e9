use Rattle.std.proofs.Common.{◌%◌, ◌∙◌, ap, take}
use Rattle.link_frames.specs.frames.Layout.{frame_len}
use Rattle.link_frames.specs.frames.FrameStreams.{rest_of}
use Rattle.frame_queues.proofs.BlockLemmas.{rest_is_kept}
use Rattle.frame_queues.proofs.frame_block.FrameBlock.keep_rest.Goals as goal

pub returns : goal.returns
returns c =
    ap (take (c.self.inside.have % frame_len)) c.copy_within.ensures.items
    ∙ rest_is_kept c.self.inside.have c.self.inside.bytes.items c.self.invariant.within
    ∙ ap rest_of c.self.view_is
