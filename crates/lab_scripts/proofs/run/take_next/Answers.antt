use Rattle.std.proofs.Common.{ℕ, List, Some, sym, subst}
use Rattle.link_frames.proofs.Exported.{Ended, Ran-kept, Ran-line, Ran-end, Ran-last}
use Rattle.link_frames.proofs.Exported.{Ran-bad_line, Ran-bad_last, Ran-too_long}
use Rattle.lab_scripts.specs.Scripts.{Unread, next, most_line_bytes}
use Rattle.lab_scripts.proofs.StageLemmas.{next-long}
use Rattle.lab_scripts.proofs.ScriptRunLemmas.{Holds-bad, Holds-good}
use Rattle.lab_scripts.proofs.run.take_next.Goals as goal

pub returns-in-End-clause-taken : goal.returns-in-End-clause-taken
returns-in-End-clause-taken g c first written script number follows ran =
    let kept = Ran-kept ran _ c.in_ok-peek.ensures.keeps in
    let begun = rw c.in-End.is at c.in_ok-peek.ensures.begins in
    (Ran-end _ _ kept begun.0 begun.1, begun.1)

pub returns-in-TooLong-clause-taken : goal.returns-in-TooLong-clause-taken
returns-in-TooLong-clause-taken g c first written script number follows ran =
    let kept = Ran-kept ran _ c.in_ok-peek.ensures.keeps in
    let begun = rw c.in-TooLong.is at c.in_ok-peek.ensures.begins in
    Ran-too_long _ _ kept most_line_bytes begun.0 (λ line long. next-long script line long)

pub returns-then-not-branch-clause-taken : goal.returns-then-not-branch-clause-taken
returns-then-not-branch-clause-taken g c first written script number follows ran =
    let kept = Ran-kept ran _ c.in_ok-peek.ensures.keeps in
    let begun = rw c.in-Line.is at c.in_ok-peek.ensures.begins in
    let holds = rw c.front.ensures at (c.in_ok-take_line-in-Line.ensures script follows) in
    let bad = Holds-bad _ _ _ _ _ holds c.if-not-branch.true in
    subst (λ (h : List ℕ). Ended next Unread first.unread first.written written h (Some number)) (sym bad.1)
    (Ran-bad_line _ _ kept c.in-Line.count begun.0.1 bad.0)

pub returns-else-not-branch-clause-taken : goal.returns-else-not-branch-clause-taken
returns-else-not-branch-clause-taken g c first written script number follows ran =
    let kept = Ran-kept ran _ c.in_ok-peek.ensures.keeps in
    let begun = rw c.in-Line.is at c.in_ok-peek.ensures.begins in
    let holds = rw c.front.ensures at (c.in_ok-take_line-in-Line.ensures script follows) in
    let (p, due, after, grown) = Holds-good _ _ _ _ _ holds c.if-not-branch.false in
    (p.0, after, rw c.take.ensures.front (Ran-line _ _ kept c.in-Line.count p.1 _ p.0 begun.0.1 due grown))

pub returns-then-not-branch-2-clause-taken : goal.returns-then-not-branch-2-clause-taken
returns-then-not-branch-2-clause-taken g c first written script number follows ran =
    let kept = Ran-kept ran _ c.in_ok-peek.ensures.keeps in
    let begun = rw c.in-Last.is at c.in_ok-peek.ensures.begins in
    let holds = rw c.front-in-Last.ensures at (c.in_ok-take_line-in-Last.ensures script follows) in
    let bad = Holds-bad _ _ _ _ _ holds c.if-not-branch-2.true in
    subst (λ (h : List ℕ). Ended next Unread first.unread first.written written h (Some number)) (sym bad.1)
    (Ran-bad_last _ _ kept c.in-Last.field-0 most_line_bytes begun.0 begun.1 bad.0)

pub returns-else-not-branch-2-clause-taken : goal.returns-else-not-branch-2-clause-taken
returns-else-not-branch-2-clause-taken g c first written script number follows ran =
    let kept = Ran-kept ran _ c.in_ok-peek.ensures.keeps in
    let begun = rw c.in-Last.is at c.in_ok-peek.ensures.begins in
    let holds = rw c.front-in-Last.ensures at (c.in_ok-take_line-in-Last.ensures script follows) in
    let (p, due, after, grown) = Holds-good _ _ _ _ _ holds c.if-not-branch-2.false in
    (Ran-last _ _ kept c.in-Last.field-0 most_line_bytes p.1 _ p.0 begun.0 begun.1 due grown, begun.1)
