use Rattle.std.proofs.Common.{None, refl}
use Rattle.line_pipe.proofs.RunLemmas.{line_answered, last_answered, end_answered, long_answered}
use Rattle.line_pipe.proofs.pipe.answer_next.Goals as goal

pub returns-in-End-clause-answered : goal.returns-in-End-clause-answered
returns-in-End-clause-answered g c =
    let begun = rw c.in-End.is at c.in_ok-peek.ensures.begins in
    end_answered _ None _ _ _ c.args.node.now _ _ c.in_ok-peek.ensures.keeps begun.0 begun.1 refl

pub returns-in_ok-stopped-in-Line-clause-answered : goal.returns-in_ok-stopped-in-Line-clause-answered
returns-in_ok-stopped-in-Line-clause-answered g c =
    let begun = rw c.in-Line.is at c.in_ok-peek.ensures.begins in
    let said = rw c.front.ensures at c.in_ok-stopped-in-Line.ensures in
    line_answered _ _ _ _ _ _ _ _ _ _ _ c.in_ok-peek.ensures.keeps begun.0.1 c.take.ensures.front
    said.stops said.after said.text

pub returns-in_ok-_stopped-in-Last-clause-answered : goal.returns-in_ok-_stopped-in-Last-clause-answered
returns-in_ok-_stopped-in-Last-clause-answered g c =
    let begun = rw c.in-Last.is at c.in_ok-peek.ensures.begins in
    let text = rw c.front-in-Last.ensures at c.in_ok-_stopped-in-Last.ensures.text in
    last_answered _ None _ _ _ _ _ c.args.node.now _ _ c.in_ok-peek.ensures.keeps begun.0 begun.1 text

pub returns-in_ok-hold_answer-in-TooLong-clause-answered : goal.returns-in_ok-hold_answer-in-TooLong-clause-answered
returns-in_ok-hold_answer-in-TooLong-clause-answered g c =
    let begun = rw c.in-TooLong.is at c.in_ok-peek.ensures.begins in
    long_answered _ _ _ None _ _ _ _ _ _ _ c.in_ok-peek.ensures.keeps c.in_ok-had_end-in-TooLong.ensures.ok begun.0 refl
    c.in_ok-hold_answer-in-TooLong.ensures.ok
