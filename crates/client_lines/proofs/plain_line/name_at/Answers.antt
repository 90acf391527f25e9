use Rattle.std.proofs.Common.{arith}
use Rattle.client_lines.proofs.PlainLineLemmas.{name_before_colon}
use Rattle.client_lines.proofs.plain_line.name_at.Goals as goal

pub returns-then-bytes-colon-eq58 : goal.returns-then-bytes-colon-eq58
returns-then-bytes-colon-eq58 c =
    let text = c.in_ok-name.ensures in
    let same = c.as_bytes-bytes.ensures.value in
    let before = rw same at c.blanks_end_before-colon.ensures.value in
    let colon = rw same at c.if-bytes-colon-eq58.true in
    let behind = rw same at c.blanks_end.ensures.value in
    record {
      forward = omega (arith, text.forward);
      within = omega arith;
      key = name_before_colon _ _ _ _ _ _ text before (omega arith) colon behind;
    }
