use Rattle.std.proofs.Common.{length, ap, arith}
use Rattle.batch_journal.proofs.BatchLemmas.{length-head_of}
use Rattle.batch_journal.proofs.preparing.prepare.Goals as goal

pub hmac_sha256-batch_key-requires-clause-text : goal.hmac_sha256-batch_key-requires-clause-text
hmac_sha256-batch_key-requires-clause-text c =
    omega (
      arith,
      ap length c.deref.ensures.value,
      ap length c.in_ok-front.ensures,
      length-head_of c.args.key.now
          c.args.head.now,
    )
