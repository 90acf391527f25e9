use Rattle.std.proofs.Common.{append_assoc}
use Rattle.operator_lines.proofs.text.add_acts.Goals as goal

pub returns : goal.returns
returns c =
    rw (
      c.in_ok-add_acts_share.ensures,
      c.in_ok-push_str.ensures.bytes,
      c.in_ok-add_number.ensures,
      c.from.ensures,
    )
    (simp append_assoc)
