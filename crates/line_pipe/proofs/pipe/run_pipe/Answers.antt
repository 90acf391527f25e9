use Rattle.std.proofs.Common.{None}
use Rattle.std.proofs.lemmas.Result.{err_from_is_err_and}
use Rattle.line_pipe.proofs.OpenLemmas.{whole_run, whole_endless, alone, not_opened, later_device}
use Rattle.link_frames.proofs.Exported.{WentOn-trans}
use Rattle.line_pipe.proofs.RunLemmas.{not_device}
use Rattle.line_pipe.proofs.pipe.run_pipe.Goals as goal

pub returns-in_err-node-clause-ran : goal.returns-in_err-node-clause-ran
returns-in_err-node-clause-ran g c =
    let p = err_from_is_err_and c.from_residual.result c.from_residual.ensures.1 in
    rw (p.1, p.2) (not_opened _ None None _ _ c.new-ahead.ensures.front _ c.in_err-node.ensures.opened)

pub returns-in_default-clause-ran : goal.returns-in_default-clause-ran
returns-in_default-clause-ran g c =
    let opened = rw c.in_default.is at c.in_ok-node.ensures.opened in
    alone _ None _ _ _ c.new-ahead.ensures.front opened

pub returns-clause-ran : goal.returns-clause-ran
returns-clause-ran g c =
    let (first, none, took, made) = rw c.in-Some.is at c.in_ok-node.ensures.opened in
    whole_run _ _ _ first c.in-Some.node c.new-ahead.ensures.front none took made _ _ _ _ c.answer_lines.ensures.ran

pub returns-clause-device : goal.returns-clause-device
returns-clause-device g c =
    let (first, none, took, made) = rw c.in-Some.is at c.in_ok-node.ensures.opened in
    later_device _ _ _ _ _ _ _ (c.in_ok-node.ensures.quiet (not_device _))
    (whole_endless _ _ _ first c.in-Some.node c.new-ahead.ensures.front none took made None _ _)
    c.answer_lines.ensures.device

pub returns-clause-quiet : goal.returns-clause-quiet
returns-clause-quiet g c = λ other.
    let (reads, writes) = c.answer_lines.ensures.quiet other in
    (WentOn-trans (c.in_ok-node.ensures.quiet (not_device _)) reads, writes)
