use Rattle.link_frames.proofs.lines.ahead.Ahead.peek.Goals as goal

pub returns-in-Some-clause-begins : goal.returns-in-Some-clause-begins
returns-in-Some-clause-begins g c =
    let begun = c.in-Some.ensures.begins in
    (begun.0, begun.1 _)
