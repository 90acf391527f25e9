use Rattle.std.proofs.Common.{◌≡◌, [], drop, ap, ◌∙◌, arith}
use Rattle.std.proofs.lemmas.List.{drop_all}
use Rattle.batch_journal.specs.Readings.{agreeing}
use Rattle.batch_journal.proofs.Bytes.{agreeing-nil}
use Rattle.batch_journal.proofs.reading.agreeing.Goals as goal

pub returns-else-at-bytes-clause-value : goal.returns-else-at-bytes-clause-value
returns-else-at-bytes-clause-value c =
    let at = c.loop-at.at in
    let wanted = c.args.wanted.now in
    let bytes = c.args.bytes.now in
    let none : drop at bytes ≡ [] = drop_all at bytes (omega arith) in
    let rest : agreeing (drop at wanted) (drop at bytes) ≡ 0 = ap (agreeing (drop at wanted)) none
    ∙ agreeing-nil (drop at wanted) in
    omega (arith, rest, c.loop-at.invariant.so_far)
