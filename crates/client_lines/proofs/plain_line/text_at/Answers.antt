use Rattle.std.proofs.Common.{◌+◌, arith, sym, subst}
use Rattle.std.proofs.lemmas.Str.{IsCharBoundary-after_ascii}
use Rattle.client_lines.specs.inside.PlainLines.{IsQuoted}
use Rattle.client_lines.proofs.PlainLineLemmas.{quoted_at}
use Rattle.client_lines.proofs.plain_line.text_at.Goals as goal

pub range-requires-clause-start_boundary : goal.range-requires-clause-start_boundary
range-requires-clause-start_boundary c some =
    let opens = rw c.as_bytes-bytes.ensures.value at c.if-bytes-at-ne34.false in
    IsCharBoundary-after_ascii c.args.text.now c.args.at c.utf8.text (omega arith) (omega (arith, opens))

pub returns-then-bytes-end-eq34 : goal.returns-then-bytes-end-eq34
returns-then-bytes-end-eq34 c =
    let line = c.args.text.now in
    let same = c.as_bytes-bytes.ensures.value in
    let opens = rw same at c.if-bytes-at-ne34.false in
    let closes = rw same at c.if-bytes-end-eq34.true in
    let inside = rw same at c.plain_end-end.ensures.value in
    subst (λ s. IsQuoted line c.args.at s (c.plain_end-end.result + 1)) (sym c.range.ensures.value)
    (quoted_at line c.args.at c.plain_end-end.result (omega arith) opens inside (omega arith) closes)
