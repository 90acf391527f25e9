use Rattle.std.proofs.Common.{ap, inr, ◌∙◌, arith, length}
use Rattle.std.proofs.KnownBytes.{Consumes-kept}
use Rattle.std.proofs.lemmas.Result.{err_from_is_err_and}
use Rattle.link_frames.proofs.line_lemmas.CallLemmas.{WentOn-trans}
use Rattle.link_frames.proofs.line_lemmas.PassedLineLemmas.{Consumes-front, Consumes-ahead, passed_end}
use Rattle.link_frames.proofs.line_lemmas.PassedLineLemmas.{passed_ahead, passed_last, UsedUp-part, IsAtEnd-prepend}
use Rattle.link_frames.proofs.lines.ahead.Ahead.pass_line.Goals as goal

pub returns-then-use_line-clause-ok : goal.returns-then-use_line-clause-ok
returns-then-use_line-clause-ok g c =
    let (line, none, is) = c.if-use_line.ensures.line in
    passed_end c.loop-self.invariant _ _ line none is (Consumes-front _ _ _ _ is)

pub returns-in_err-read_block-clause-err : goal.returns-in_err-read_block-clause-err
returns-in_err-read_block-clause-err g c =
    let p = err_from_is_err_and c.from_residual.result c.from_residual.ensures.1 in
    let (none, empty) = c.if-use_line.ensures.line in
    let up = passed_ahead c.loop-self.invariant _ none (Consumes-ahead _ _ _ empty) in
    rw p.1 (UsedUp-part _ _ up c.in_err-read_block.ensures.keeps)

pub returns-then-not-branch-clause-ok : goal.returns-then-not-branch-clause-ok
returns-then-not-branch-clause-ok g c =
    let (none, empty) = c.if-use_line.ensures.line in
    let up = passed_ahead c.loop-self.invariant _ none (Consumes-ahead _ _ _ empty) in
    let read = c.in_ok-read_block.ensures in
    let (same, end) = rw c.if-not-branch.true at read.more in
    passed_last _ _ up read.keeps (IsAtEnd-prepend _ _ (same ∙ empty) end)

pub loop-self-preserved : goal.loop-self-preserved
loop-self-preserved g c =
    let so_far = c.loop-self.invariant in
    let read = c.in_ok-read_block.ensures in
    let (none, empty) = c.if-use_line.ensures.line in
    let up = passed_ahead so_far _ none (Consumes-ahead _ _ _ empty) in record {
      part = up.part;
      none = up.none;
      used = Consumes-kept _ _ _ _ up.used read.keeps;
      begun = inr up.more;
      went = WentOn-trans so_far.went read.counts;
      held = omega (arith, read.held, so_far.held, ap length empty);
    }
