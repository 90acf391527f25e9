use Rattle.std.proofs.Common.{refl}
use Rattle.link_frames.specs.frames.inside.Schedules.{four_words}
use Rattle.link_frames.proofs.frame_lemmas.ScheduleWords.{followed}
use Rattle.link_frames.proofs.frames.schedule.next_four.Goals as goal

pub returns : goal.returns
unfolding four_words
returns c = λ b t fits e0 e4 e8 e12.
    rw (c.small_sigma1-2.ensures, c.small_sigma1.ensures, c.small_sigma0.ensures, e0, e4, e8, e12)
    (followed b t fits _ _ refl refl)
