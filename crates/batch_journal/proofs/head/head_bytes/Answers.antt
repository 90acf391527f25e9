use Rattle.std.proofs.Common.{length, ap, ◌∙◌, arith}
use Rattle.batch_journal.specs.Batches.{sealed}
use Rattle.batch_journal.specs.Heads.{head_of}
use Rattle.batch_journal.proofs.BatchLemmas.{length-opened_head}
use Rattle.batch_journal.proofs.head.head_bytes.Goals as goal

pub push_seal-requires : goal.push_seal-requires
push_seal-requires c = omega (arith, ap length c.in_ok-bytes.ensures, length-opened_head c.args.head.now)

pub returns : goal.returns
unfolding head_of
returns c = c.in_ok-push_seal.ensures.sealed ∙ ap (sealed c.args.key.now) c.in_ok-bytes.ensures
