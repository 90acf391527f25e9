use Rattle.link_frames.proofs.frame_lemmas.SameTags.{Compared}
use Rattle.link_frames.proofs.frames.opening.is_same_tag.Given as goal

abbrev pub invariant-loop-i : goal.invariant-loop-i
invariant-loop-i l = Compared l.a l.b l.i l.differences
