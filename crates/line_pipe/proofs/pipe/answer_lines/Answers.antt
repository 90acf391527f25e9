use Rattle.std.proofs.Common.{arith, ap, inl, inr, refl, None, Result, Ok, Err}
use Rattle.std.proofs.lemmas.Result.{err_from_is_err_and}
use Rattle.link_frames.proofs.Exported.{Ran-moved, WentOn-nothing, WentOn-trans, CallFailed-later, ReaderFailed-later}
use Rattle.line_pipe.specs.declared.fault.PipeFault.TheVariants.{Device}
use Rattle.line_pipe.proofs.RunLemmas.{Lines-start, Ran-more, Lines-front, Lines-kept, Lines-end}
use Rattle.line_pipe.proofs.RunLemmas.{Lines-out, Lines-endless, LinesRan-fault, finish_device, not_device}
use Rattle.line_pipe.proofs.pipe.answer_lines.Goals as goal

abbrev fault_or : {T E : Type 0} → E → Result T E → E
fault_or e (Ok x) = e
fault_or e (Err f) = f

pub loop-number-init : goal.loop-number-init
loop-number-init g c = (Lines-start _ _ _ _ c.new-held.ensures, WentOn-nothing _, WentOn-nothing _)

pub returns-in_err-write_when_due-clause-ran : goal.returns-in_err-write_when_due-clause-ran
returns-in_err-write_when_due-clause-ran g c =
    let (ran, reads, writes) = c.loop-number.invariant in
    let p = err_from_is_err_and c.from_residual.result c.from_residual.ensures.1 in
    let front = Lines-front ran _ c.in_err-write_when_due.ensures.part in
    rw p.1 (LinesRan-fault _ _ None _ _ p.0 (inl p.2) front)

pub returns-in_err-write_when_due-clause-device : goal.returns-in_err-write_when_due-clause-device
returns-in_err-write_when_due-clause-device g c =
    let (ran, reads, writes) = c.loop-number.invariant in
    let p = err_from_is_err_and c.from_residual.result c.from_residual.ensures.1 in
    rw p.1 (λ q. inr (inl (CallFailed-later _ _ _ writes c.in_err-write_when_due.ensures.failed)))

pub returns-in-Ok-false-clause-ran : goal.returns-in-Ok-false-clause-ran
returns-in-Ok-false-clause-ran g c =
    let (ran, reads, writes) = c.loop-number.invariant in
    let moved = Ran-moved ran _ _ c.in_ok-write_when_due.ensures.moved in
    let answered = rw c.in-Ok-false.field-0-test at c.in-Ok-false.ensures.answered in
    Lines-end moved _ None _ c.args.node.now _ _ _ _ answered refl c.finish.ensures.ended

pub returns-in-Err-Memory-clause-ran : goal.returns-in-Err-Memory-clause-ran
returns-in-Err-Memory-clause-ran g c =
    let (ran, reads, writes) = c.loop-number.invariant in
    let moved = Ran-moved ran _ _ c.in_ok-write_when_due.ensures.moved in
    Lines-out moved _ _ _ _ _ _ (inr refl) c.in-Err-Memory.ensures.same c.finish-in-Err-Memory.ensures.ended

pub returns-in-Err : goal.returns-in-Err
returns-in-Err g c =
    let (ran, reads, writes) = c.loop-number.invariant in
    let moved = Ran-moved ran _ _ c.in_ok-write_when_due.ensures.moved in
    record {
      ran = LinesRan-fault _ _ None _ _ _ c.in-Err.ensures.kind (Lines-kept moved);
      device = λ q. inl (ReaderFailed-later _ _ _ reads (c.in-Err.ensures.device q));
      quiet = λ other. (
        WentOn-trans reads (c.in-Err.ensures.quiet (λ q. other (ap Err (ap (fault_or Device) q)))),
        WentOn-trans writes c.in_ok-write_when_due.ensures.went_on,
      );
    }

pub loop-number-preserved : goal.loop-number-preserved
loop-number-preserved g c =
    let (ran, reads, writes) = c.loop-number.invariant in
    let moved = Ran-moved ran _ _ c.in_ok-write_when_due.ensures.moved in
    let answered = rw c.in-Ok-true.field-0-test at c.in-Ok-true.ensures.answered in (
      Ran-more moved _ None _ _ answered,
      WentOn-trans reads (c.in-Ok-true.ensures.quiet (not_device _)),
      WentOn-trans writes c.in_ok-write_when_due.ensures.went_on,
    )

pub returns-clause-ran : goal.returns-clause-ran
returns-clause-ran g c =
    let (ran, reads, writes) = c.loop-number.invariant in
    Lines-out ran _ _ _ _ _ _ (inl refl) refl c.finish-2.ensures.ended

pub returns-clause-device : goal.returns-clause-device
returns-clause-device g c =
    let (ran, reads, writes) = c.loop-number.invariant in
    finish_device _ _ _ _ _ _ _ _ _ _
    (λ q sent. Lines-endless ran _ (omega arith) sent) writes c.finish-2.ensures.ended
