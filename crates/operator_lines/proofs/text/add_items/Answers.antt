use Rattle.std.proofs.Common.{codes, string_bytes}
use Rattle.client_lines.proofs.Exported.{all_added}
use Rattle.operator_lines.proofs.text.add_items.Goals as goal

pub returns : goal.returns
returns g c =
    all_added g.T.Item.written (codes ",") (string_bytes c.args.text.now) _ _ _ c.in-Some.first.now _
    c.loop-item.item-index c.in-Some.ensures.cases.0 c.loop-item-test.false c.in_ok-add_to.ensures
    c.loop-item.invariant
