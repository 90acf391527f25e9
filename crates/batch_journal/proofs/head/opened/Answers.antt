use Rattle.batch_journal.specs.Heads.{opened_head}
use Rattle.batch_journal.proofs.head.opened.Goals as goal

pub returns : goal.returns
unfolding opened_head
returns c =
    rw (
      c.in_ok-push_digits-10.ensures.digits,
      c.in_ok-push_digits-9.ensures.digits,
      c.in_ok-extend_from_slice.ensures.items,
      c.in_ok-push_digits-8.ensures.digits,
      c.in_ok-push_digits-7.ensures.digits,
      c.in_ok-push_digits-6.ensures.digits,
      c.in_ok-push_digits-5.ensures.digits,
      c.in_ok-push_digits-4.ensures.digits,
      c.in_ok-push_digits-3.ensures.digits,
      c.in_ok-push_digits-2.ensures.digits,
      c.in_ok-push_digits.ensures.digits,
      c.in_ok-push.ensures.items,
      c.new-bytes.ensures.items,
    ) (cc)
