use Rattle.std.proofs.Common.{append_assoc}
use Rattle.operator_lines.proofs.text.add_front.Goals as goal

pub returns : goal.returns
returns c =
    rw (
      c.in_ok-add_number-2.ensures,
      c.from-2.ensures,
      c.in_ok-add_flag.ensures,
      c.in_ok-add_number.ensures,
      c.from.ensures,
      c.in_ok-add_acts.ensures,
    )
    (simp append_assoc)
