use Rattle.std.proofs.Common.{◌≡◌, ◌∙◌, ◌*◌, ap, subst, length, arith}
use Rattle.link_frames.specs.frames.Layout.{frame_len}
use Rattle.link_frames.specs.frames.FrameStreams.{AreFrames}
use Rattle.frame_queues.specs.Unsent.{UnsentValue, unsent}
use Rattle.frame_queues.proofs.UnsentLemmas.{goes_on, part_is_there, taken_of_unsent}
use Rattle.frame_queues.proofs.unsent_frames.UnsentFrames.write.Goals as goal

pub returns-clause-bytes : goal.returns-clause-bytes
returns-clause-bytes g c =
    let there : length c.as_flattened-bytes.result.now ≡ length c.batch_of.result.now * frame_len =
    c.as_flattened-bytes.ensures.len in
    let written =
    part_is_there c.self.inside.written (length c.batch_of.result.now) c.self.invariant.part
    (λ some. c.batch_of.ensures.some (c.self.invariant.oldest some)) in
    taken_of_unsent _ _ c.in_ok-count.count _ _ _ _ c.self.view_is c.as_flattened-bytes.ensures.value
    c.batch_of.ensures.front
    (omega (arith, there, written))
    c.in_ok-count.ensures.bound c.in_ok-count.ensures.bytes

pub returns-clause-rest : goal.returns-clause-rest
returns-clause-rest g c =
    ap unsent c.forget.ensures
    ∙ goes_on c.in_ok-count.count c.args.self.now
    (subst (λ (u : UnsentValue). AreFrames u.frames) c.self.view_is c.self.invariant.whole)
