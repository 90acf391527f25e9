use Rattle.std.proofs.Common.{arith}
use Rattle.link_frames.proofs.frame_lemmas.SameTags.{Compared-more, compared}
use Rattle.link_frames.proofs.frames.opening.is_same_tag.Goals as goal

pub loop-i-preserved : goal.loop-i-preserved
loop-i-preserved c = Compared-more _ _ _ _ c.loop-i.invariant

pub returns : goal.returns
returns c = compared _ _ c.loop-i.i _ (omega (arith, c.told-a, c.told-b)) (omega (arith, c.told-a)) c.loop-i.invariant
