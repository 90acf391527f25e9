use Rattle.std.proofs.Common.{inl, inr, codes}
use Rattle.client_lines.proofs.PlainLineLemmas.{word_there}
use Rattle.client_lines.proofs.plain_line.word_at.Goals as goal

pub returns-then-starts_with-clause-word : goal.returns-then-starts_with-clause-word
returns-then-starts_with-clause-word c =
    let line = c.args.bytes.now in
    inl (word_there line (codes "true") c.args.at _ c.starts_with.ensures.value c.if-starts_with.true)

pub returns-then-starts_with-2-clause-word : goal.returns-then-starts_with-2-clause-word
returns-then-starts_with-2-clause-word c =
    let line = c.args.bytes.now in
    inr (inl (word_there line (codes "false") c.args.at _ c.starts_with-2.ensures.value c.if-starts_with-2.true))

pub returns-then-starts_with-3-clause-word : goal.returns-then-starts_with-3-clause-word
returns-then-starts_with-3-clause-word c =
    let line = c.args.bytes.now in
    inr (inr (word_there line (codes "null") c.args.at _ c.starts_with-3.ensures.value c.if-starts_with-3.true))
