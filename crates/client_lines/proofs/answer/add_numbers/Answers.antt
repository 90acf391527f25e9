use Rattle.std.proofs.Common.{codes, string_bytes}
use Rattle.client_lines.proofs.Joins.{all_added, written_behind}
use Rattle.client_lines.proofs.answer.add_numbers.Goals as goal

pub returns : goal.returns
returns g c =
    let i = c.loop-number.number-index in
    let before = string_bytes c.args.text.now in
    all_added g.T.Integer.text (codes ",") before _ _ _ c.in-Some.first.now _ i c.in-Some.ensures.cases.0
    c.loop-number-test.false
    (written_behind before _ _ _ c.in_ok-push_str.ensures.bytes c.format.ensures.text)
    c.loop-number.invariant
