use Rattle.std.proofs.Common.{◌≡◌, ◌+◌, length, ap, ◌∙◌, arith}
use Rattle.batch_journal.specs.Batches.{sealed, batch_of, opened_batch}
use Rattle.batch_journal.proofs.BatchLemmas.{length-opened_batch}
use Rattle.batch_journal.proofs.sealing.make_batch.Goals as goal

pub push_seal-requires : goal.push_seal-requires
unfolding opened_batch
push_seal-requires c =
    let opened : c.extend_from_slice.new.self.items ≡ opened_batch c.args.number c.args.digits.now =
    rw (
      c.in_ok-extend_from_slice.ensures.items,
      c.in_ok-push_digits-2.ensures.digits,
      c.in_ok-push_digits.ensures.digits,
      c.in_ok-push.ensures.items,
      c.clear.ensures.items,
    ) (cc) in
    let size : length c.extend_from_slice.new.self.items ≡ 8 + length c.args.digits.now = ap length opened
    ∙ length-opened_batch c.args.number c.args.digits.now in
    omega (arith, size)

pub returns-clause-batch : goal.returns-clause-batch
unfolding batch_of opened_batch
returns-clause-batch c =
    let opened : c.extend_from_slice.new.self.items ≡ opened_batch c.args.number c.args.digits.now =
    rw (
      c.in_ok-extend_from_slice.ensures.items,
      c.in_ok-push_digits-2.ensures.digits,
      c.in_ok-push_digits.ensures.digits,
      c.in_ok-push.ensures.items,
      c.clear.ensures.items,
    ) (cc) in
    c.in_ok-push_seal.ensures.sealed ∙ ap (sealed c.args.key.now) opened
