use Rattle.std.proofs.Common.{refl}
use Rattle.link_frames.proofs.frame_lemmas.FourLanes.{four}
use Rattle.link_frames.proofs.frames.schedule.small_sigma1.Goals as goal

pub returns : goal.returns
returns c = rw (four c.args.words c.fits-words.0) refl
