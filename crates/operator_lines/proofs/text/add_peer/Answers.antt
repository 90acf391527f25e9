use Rattle.std.proofs.Common.{append_assoc}
use Rattle.operator_lines.proofs.text.add_peer.Goals as goal

pub returns : goal.returns
returns c =
    rw (
      c.in_ok-push_str.ensures.bytes,
      c.in_ok-add_number-4.ensures,
      c.from.ensures,
      c.in_ok-add_number-3.ensures,
      c.in_ok-add_number-2.ensures,
      c.in_ok-add_flag-2.ensures,
      c.in_ok-add_flag.ensures,
      c.in_ok-add_number.ensures,
    )
    (simp append_assoc)
