use Rattle.batch_journal.proofs.Overwriting.{written_is}
use Rattle.batch_journal.proofs.disk.overwrite.Goals as goal

pub returns-in-Ok-clause-written : goal.returns-in-Ok-clause-written
returns-in-Ok-clause-written g c =
    written_is c.args.at c.args.bytes.now (g.D.Disk.seen c.args.disk.now) (g.D.Disk.seen c.write_at.new.self)
    (c.in-Ok.ensures.written) c.write_at.ensures.others
