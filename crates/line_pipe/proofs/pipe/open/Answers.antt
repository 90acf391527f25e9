use Rattle.std.proofs.Common.{None}
use Rattle.std.proofs.lemmas.Result.{err_from_is_err_and}
use Rattle.line_pipe.proofs.OpenLemmas.{opened-line, opened-refused_line, opened-last}
use Rattle.line_pipe.proofs.OpenLemmas.{opened-refused_last, opened-end, opened-too_long, opened-fault}
use Rattle.line_pipe.proofs.pipe.open.Goals as goal

pub returns-in_err-peek-clause-opened : goal.returns-in_err-peek-clause-opened
returns-in_err-peek-clause-opened g c =
    let p = err_from_is_err_and c.from_residual.result c.from_residual.ensures.1 in
    rw p.1 (opened-fault _ None None _ p.0 p.2)

pub returns-in_err-node-in-Line-clause-opened : goal.returns-in_err-node-in-Line-clause-opened
returns-in_err-node-in-Line-clause-opened g c =
    let begun = rw c.in-Line.is at c.in_ok-peek.ensures.begins in
    let refused = rw c.front.ensures at c.in_err-node-in-Line.ensures.err in
    let p = err_from_is_err_and c.from_residual-in_err-node-in-Line.result
    c.from_residual-in_err-node-in-Line.ensures.1 in
    rw (p.1, p.2) (opened-refused_line _ None None _ _ c.in_ok-peek.ensures.keeps _ _ begun.0.1 refused)

pub returns-in_err-_node-in-Last-clause-opened : goal.returns-in_err-_node-in-Last-clause-opened
returns-in_err-_node-in-Last-clause-opened g c =
    let begun = rw c.in-Last.is at c.in_ok-peek.ensures.begins in
    let refused = rw c.front-in-Last.ensures at c.in_err-_node-in-Last.ensures.err in
    let p = err_from_is_err_and c.from_residual-in_err-_node-in-Last.result
    c.from_residual-in_err-_node-in-Last.ensures.1 in
    rw (p.1, p.2) (opened-refused_last _ None None _ _ c.in_ok-peek.ensures.keeps _ _ _ begun.0 begun.1 refused)

pub returns-in-End-clause-opened : goal.returns-in-End-clause-opened
returns-in-End-clause-opened g c =
    let begun = rw c.in-End.is at c.in_ok-peek.ensures.begins in
    opened-end _ None None _ _ c.in_ok-peek.ensures.keeps begun.0 begun.1

pub returns-in-TooLong-clause-opened : goal.returns-in-TooLong-clause-opened
returns-in-TooLong-clause-opened g c =
    let begun = rw c.in-TooLong.is at c.in_ok-peek.ensures.begins in
    opened-too_long _ None None _ _ c.in_ok-peek.ensures.keeps begun.0

pub returns-in_ok-node-in-Line-clause-opened : goal.returns-in_ok-node-in-Line-clause-opened
returns-in_ok-node-in-Line-clause-opened g c =
    let begun = rw c.in-Line.is at c.in_ok-peek.ensures.begins in
    let made = rw c.front.ensures at c.in_ok-node-in-Line.ensures.ok in
    opened-line _ None None _ _ c.in_ok-peek.ensures.keeps _ _ _ begun.0.1 c.take.ensures.front made

pub returns-in_ok-_node-in-Last-clause-opened : goal.returns-in_ok-_node-in-Last-clause-opened
returns-in_ok-_node-in-Last-clause-opened g c =
    let begun = rw c.in-Last.is at c.in_ok-peek.ensures.begins in
    let made = rw c.front-in-Last.ensures at c.in_ok-_node-in-Last.ensures.ok in
    opened-last _ None None _ _ c.in_ok-peek.ensures.keeps _ _ _ begun.0 begun.1 made
