use Rattle.std.proofs.Common.{arith, sym, ◌∙◌, ◌+◌}
use Rattle.link_frames.specs.lines.Nexts.{EndsAt}
use Rattle.link_frames.proofs.line_lemmas.LineEndLemmas.{EndsAt-position, NoLineEnd-EndsAt, NoLineEnd-position}
use Rattle.link_frames.proofs.line_lemmas.LineEndLemmas.{NoLineEnd-whole}
use Rattle.link_frames.proofs.lines.next.next_of.Goals as goal

pub returns-in-Some-clause-begins : goal.returns-in-Some-clause-begins
returns-in-Some-clause-begins c =
    ((omega arith, EndsAt-position _ _ (sym c.first_line_end.ensures ∙ c.in-Some.is)), λ _. tt)

pub returns-in-Some-2-clause-begins : goal.returns-in-Some-2-clause-begins
returns-in-Some-2-clause-begins c =
    let at : EndsAt c.args.front.now c.in-Some.end =
    EndsAt-position _ _ (sym c.first_line_end.ensures ∙ c.in-Some.is) in
    ((omega arith, NoLineEnd-EndsAt c.args.front.now (c.args.limit + 1) c.in-Some.end at (omega arith)), λ _. tt)

pub returns-in-None-clause-begins : goal.returns-in-None-clause-begins
returns-in-None-clause-begins c = (
  (
    omega arith,
    NoLineEnd-position c.args.front.now (c.args.limit + 1)
        (sym c.first_line_end.ensures ∙ c.in-None.is),
  ),
  λ _. tt,
)

pub returns-in-None-2-clause-open : goal.returns-in-None-2-clause-open
returns-in-None-2-clause-open c =
    (NoLineEnd-whole c.args.front.now (sym c.first_line_end.ensures ∙ c.in-None.is), omega arith)
