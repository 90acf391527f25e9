use Rattle.std.proofs.Common.{sym, ap, ◌∙◌, arith}
use Rattle.std.proofs.lemmas.List.{drop_all}
use Rattle.link_frames.specs.lines.Lines.{is_line_end}
use Rattle.std.specs.List.{position}
use Rattle.link_frames.proofs.line_lemmas.LineEndLemmas.{used_line, NoLineEnd-whole}
use Rattle.link_frames.proofs.lines.ahead.Ahead.use_line.Goals as goal

pub returns-in-Some-clause-line : goal.returns-in-Some-clause-line
returns-in-Some-clause-line c =
    let found = ap (position is_line_end) (sym c.front.ensures) ∙ sym c.first_line_end.ensures ∙ c.in-Some.is in
    used_line _ _ c.in-Some.end found c.take.ensures.front

pub returns-in-None-clause-line : goal.returns-in-None-clause-line
returns-in-None-clause-line c =
    let found = ap (position is_line_end) (sym c.front.ensures) ∙ sym c.first_line_end.ensures ∙ c.in-None.is in
    let bytes = c.args.self.now.bytes.items in
    (NoLineEnd-whole _ found, drop_all c.len-self.result bytes (omega (arith, c.len-self.ensures)))
