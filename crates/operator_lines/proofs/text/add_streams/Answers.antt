use Rattle.std.proofs.Common.{append_assoc}
use Rattle.operator_lines.proofs.text.add_streams.Goals as goal

pub returns : goal.returns
returns c =
    rw (
      c.in_ok-add_to.ensures,
      c.in_ok-push_str-2.ensures.bytes,
      c.in_ok-add_number-2.ensures,
      c.from-2.ensures,
      c.in_ok-add_items.ensures,
      c.as_slice.ensures,
      c.in_ok-push_str.ensures.bytes,
      c.in_ok-add_number.ensures,
      c.from.ensures,
    )
    (simp append_assoc)
