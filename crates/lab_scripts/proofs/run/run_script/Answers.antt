use Rattle.std.proofs.Common.{arith, inl, inr, refl, None}
use Rattle.std.proofs.lemmas.Result.{err_from_is_err_and}
use Rattle.link_frames.proofs.Exported.{Ended-front, WentOn-trans, CallFailed-later}
use Rattle.link_frames.proofs.Exported.{ReaderFailed-later, AppendsFront-whole}
use Rattle.lab_scripts.proofs.ScriptRunLemmas.{run_starts, run_moves, run_goes_on, run_breaks, run_stops}
use Rattle.lab_scripts.proofs.ScriptRunLemmas.{run_is_endless, first_of, written_of}
use Rattle.lab_scripts.proofs.ScriptRunLemmas.{ends_bad, ends_good, ends_ahead, ahead_device}
use Rattle.lab_scripts.proofs.run.run_script.Goals as goal

pub loop-number-init : goal.loop-number-init
loop-number-init g c = run_starts _ _ _ _ _ _ refl refl c.new-ahead.ensures.front c.new-held.ensures

pub returns-in_err-write_when_due-clause-ran : goal.returns-in_err-write_when_due-clause-ran
returns-in_err-write_when_due-clause-ran g c =
    let p = err_from_is_err_and c.from_residual.result c.from_residual.ensures.1 in
    rw (p.1, p.2) (run_breaks c.loop-number.invariant _ c.in_err-write_when_due.ensures.part)

pub returns-in_err-write_when_due-clause-device : goal.returns-in_err-write_when_due-clause-device
returns-in_err-write_when_due-clause-device g c =
    let p = err_from_is_err_and c.from_residual.result c.from_residual.ensures.1 in
    rw (p.1, p.2) (λ q. inr
    (inl (CallFailed-later _ _ _ c.loop-number.invariant.writer c.in_err-write_when_due.ensures.failed)))

pub returns-in_err-take_next-clause-ran : goal.returns-in_err-take_next-clause-ran
returns-in_err-take_next-clause-ran g c =
    let moved = run_moves c.loop-number.invariant _ _ _ c.in_ok-write_when_due.ensures.moved
    c.in_ok-write_when_due.ensures.went_on in
    let p = err_from_is_err_and c.from_residual-in_err-take_next.result c.from_residual-in_err-take_next.ensures.1 in
    rw (p.1, p.2) (ends_ahead _ None _ _ c.in_err-take_next.field-0.0 (run_stops moved))

pub returns-in_err-take_next-clause-device : goal.returns-in_err-take_next-clause-device
returns-in_err-take_next-clause-device g c =
    let p = err_from_is_err_and c.from_residual-in_err-take_next.result c.from_residual-in_err-take_next.ensures.1 in
    rw (p.1, p.2) (λ q. inl (ReaderFailed-later _ _ _ c.loop-number.invariant.reader
    (ahead_device _ _ c.in_err-take_next.field-0.0 c.in_err-take_next.ensures.counts q)))

pub returns-in_err-write_all-in-BadLine-clause-ran : goal.returns-in_err-write_all-in-BadLine-clause-ran
returns-in_err-write_all-in-BadLine-clause-ran g c =
    let moved = run_moves c.loop-number.invariant _ _ _ c.in_ok-write_when_due.ensures.moved
    c.in_ok-write_when_due.ensures.went_on in
    let end = rw c.in-BadLine.is at (c.in_ok-take_next.ensures.taken (first_of moved) (written_of moved) moved.script _
    moved.follows moved.ran) in
    let p = err_from_is_err_and c.from_residual-in_err-write_all-in-BadLine.result
    c.from_residual-in_err-write_all-in-BadLine.ensures.1 in
    rw (p.1, p.2) (Ended-front end _ c.in_err-write_all-in-BadLine.ensures.part)

pub returns-in_err-write_all-in-BadLine-clause-device : goal.returns-in_err-write_all-in-BadLine-clause-device
returns-in_err-write_all-in-BadLine-clause-device g c =
    let on = WentOn-trans c.loop-number.invariant.writer c.in_ok-write_when_due.ensures.went_on in
    let p = err_from_is_err_and c.from_residual-in_err-write_all-in-BadLine.result
    c.from_residual-in_err-write_all-in-BadLine.ensures.1 in
    rw (p.1, p.2) (λ q. inr (inl (CallFailed-later _ _ _ on c.in_err-write_all-in-BadLine.ensures.failed)))

pub returns-in-BadLine-clause-ran : goal.returns-in-BadLine-clause-ran
returns-in-BadLine-clause-ran g c =
    let moved = run_moves c.loop-number.invariant _ _ _ c.in_ok-write_when_due.ensures.moved
    c.in_ok-write_when_due.ensures.went_on in
    let end = rw c.in-BadLine.is at (c.in_ok-take_next.ensures.taken (first_of moved) (written_of moved) moved.script _
    moved.follows moved.ran) in
    ends_bad None _ end c.in_ok-write_all-in-BadLine.ensures.written

pub returns-in_err-write_all-in-All-clause-ran : goal.returns-in_err-write_all-in-All-clause-ran
returns-in_err-write_all-in-All-clause-ran g c =
    let moved = run_moves c.loop-number.invariant _ _ _ c.in_ok-write_when_due.ensures.moved
    c.in_ok-write_when_due.ensures.went_on in
    let end = rw c.in-All.is at (c.in_ok-take_next.ensures.taken (first_of moved) (written_of moved) moved.script _
    moved.follows moved.ran) in
    let p = err_from_is_err_and c.from_residual-in_err-write_all-in-All.result
    c.from_residual-in_err-write_all-in-All.ensures.1 in
    rw (p.1, p.2) (Ended-front end.0 _ c.in_err-write_all-in-All.ensures.part)

pub returns-in_err-write_all-in-All-clause-device : goal.returns-in_err-write_all-in-All-clause-device
returns-in_err-write_all-in-All-clause-device g c =
    let on = WentOn-trans c.loop-number.invariant.writer c.in_ok-write_when_due.ensures.went_on in
    let p = err_from_is_err_and c.from_residual-in_err-write_all-in-All.result
    c.from_residual-in_err-write_all-in-All.ensures.1 in
    rw (p.1, p.2) (λ q. inr (inl (CallFailed-later _ _ _ on c.in_err-write_all-in-All.ensures.failed)))

pub returns-in-All-clause-ran : goal.returns-in-All-clause-ran
returns-in-All-clause-ran g c =
    let moved = run_moves c.loop-number.invariant _ _ _ c.in_ok-write_when_due.ensures.moved
    c.in_ok-write_when_due.ensures.went_on in
    let end = rw c.in-All.is at (c.in_ok-take_next.ensures.taken (first_of moved) (written_of moved) moved.script _
    moved.follows moved.ran) in
    ends_good _ _ end.0 end.1 c.in_ok-write_all-in-All.ensures.written

pub loop-number-preserved : goal.loop-number-preserved
loop-number-preserved g c =
    let moved = run_moves c.loop-number.invariant _ _ _ c.in_ok-write_when_due.ensures.moved
    c.in_ok-write_when_due.ensures.went_on in
    let more = rw c.in-Line.is at (c.in_ok-take_next.ensures.taken (first_of moved) (written_of moved) moved.script _
    moved.follows moved.ran) in
    run_goes_on moved _ _ _ _ more.0 more.1 more.2 c.in_ok-take_next.ensures.counts

pub returns-in_err-write_all-clause-ran : goal.returns-in_err-write_all-clause-ran
returns-in_err-write_all-clause-ran g c =
    let p = err_from_is_err_and c.from_residual-in_err-write_all.result c.from_residual-in_err-write_all.ensures.1 in
    rw (p.1, p.2) (run_breaks c.loop-number.invariant _ c.in_err-write_all.ensures.part)

pub returns-in_err-write_all-clause-device : goal.returns-in_err-write_all-clause-device
returns-in_err-write_all-clause-device g c =
    let p = err_from_is_err_and c.from_residual-in_err-write_all.result c.from_residual-in_err-write_all.ensures.1 in
    rw (p.1, p.2) (λ q. inr
    (inl (CallFailed-later _ _ _ c.loop-number.invariant.writer c.in_err-write_all.ensures.failed)))

pub returns-clause-ran : goal.returns-clause-ran
returns-clause-ran g c =
    run_breaks c.loop-number.invariant _ (AppendsFront-whole _ _ _ c.in_ok-write_all.ensures.written)

pub returns-clause-device : goal.returns-clause-device
returns-clause-device g c q =
    inr (inr (run_is_endless c.loop-number.invariant None _ (omega arith) c.in_ok-write_all.ensures.written))
