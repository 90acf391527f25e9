use Rattle.batch_journal.proofs.Overwriting.{may_grow}
use Rattle.batch_journal.proofs.placing.grow.Goals as goal

pub returns-in_err-overwrite-clause-crash : goal.returns-in_err-overwrite-clause-crash
returns-in_err-overwrite-clause-crash g c front rest size only left may =
    may_grow (g.D.Disk.may_leave c.args.disk.now) (g.D.Disk.may_leave c.overwrite.new.disk) c.args.size
    c.args.zeros.now front rest size only
    c.overwrite.ensures.crash left may

pub returns-clause-crash : goal.returns-clause-crash
returns-clause-crash g c front rest size only left may =
    may_grow (g.D.Disk.may_leave c.args.disk.now) (g.D.Disk.may_leave c.overwrite.new.disk) c.args.size
    c.args.zeros.now front rest size only
    c.overwrite.ensures.crash left (c.sync_disk.ensures.crash left may)

pub returns-in_err-sync_disk-clause-crash : goal.returns-in_err-sync_disk-clause-crash
returns-in_err-sync_disk-clause-crash g c front rest size only left may =
    may_grow (g.D.Disk.may_leave c.args.disk.now) (g.D.Disk.may_leave c.overwrite.new.disk) c.args.size
    c.args.zeros.now front rest size only
    c.overwrite.ensures.crash left (c.sync_disk.ensures.crash left may)
