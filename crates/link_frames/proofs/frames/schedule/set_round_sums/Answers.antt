use Rattle.std.proofs.Common.{refl, arith}
use Rattle.link_frames.specs.frames.inside.Schedules.{four_words}
use Rattle.link_frames.proofs.frame_lemmas.ScheduleWords.{set_four}
use Rattle.link_frames.proofs.frames.schedule.set_round_sums.Goals as goal

pub returns : goal.returns
unfolding four_words
returns c = λ b e held.
    set_four b c.args.sums.now c.args.t _ _ _ _ (omega arith) held (rw e refl)
