use Rattle.std.proofs.Common.{arith, ◌∙◌}
use Rattle.std.proofs.lemmas.Result.{err_from_is_err_and}
use Rattle.link_frames.proofs.line_lemmas.CallLemmas.{WentOn-trans}
use Rattle.link_frames.proofs.line_lemmas.WriteLemmas.{Appends-more, AppendsFront-kept}
use Rattle.link_frames.proofs.lines.device.write_whole.Goals as goal

pub returns-in_err-sent-clause-part : goal.returns-in_err-sent-clause-part
returns-in_err-sent-clause-part g c =
    let p = err_from_is_err_and c.from_residual.result c.from_residual.ensures.1 in
    rw p.1 (AppendsFront-kept _ _ _ _ c.loop-sent.sent c.loop-sent.invariant.wrote c.in_err-sent.ensures.bytes)

pub loop-sent-preserved : goal.loop-sent-preserved
loop-sent-preserved g c =
    let before = c.loop-sent.invariant in
    let took = c.in_ok-sent.ensures in record {
      within = omega (arith, took.some);
      wrote = Appends-more _ _ _ c.args.bytes.now c.loop-sent.sent _ before.wrote took.bytes;
      went = WentOn-trans before.went took.ok;
      few = omega (arith, took.some.0, took.retries, before.few);
      unread = c.write_patiently.ensures.reads ∙ before.unread;
    }
