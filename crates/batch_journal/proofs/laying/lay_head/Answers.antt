use Rattle.std.proofs.Common.{◌≡◌, ◌-◌, ◌++◌, [], length, replicate, refl, ◌∙◌}
use Rattle.std.proofs.Common.{arith}
use Rattle.batch_journal.proofs.Overwriting.{placed_is, placed_left}
use Rattle.batch_journal.proofs.laying.lay_head.Goals as goal

pub returns-in_err-overwrite-clause-crash : goal.returns-in_err-overwrite-clause-crash
returns-in_err-overwrite-clause-crash g c zeroed left may = record {
  count = c.args.size - length c.args.front.now;
  room = omega arith;
  faded = placed_left [] c.args.front.now 0 c.args.size (g.D.Disk.may_leave c.args.disk.now)
      (g.D.Disk.may_leave c.overwrite.new.disk)
      refl zeroed.only c.overwrite.ensures.crash (omega arith) left may;
}

pub returns-in_err-sync_disk-clause-crash : goal.returns-in_err-sync_disk-clause-crash
returns-in_err-sync_disk-clause-crash g c zeroed left may = record {
  count = c.args.size - length c.args.front.now;
  room = omega arith;
  faded = placed_left [] c.args.front.now 0 c.args.size (g.D.Disk.may_leave c.args.disk.now)
      (g.D.Disk.may_leave c.overwrite.new.disk)
      refl zeroed.only c.overwrite.ensures.crash (omega arith) left (c.sync_disk.ensures.crash left may);
}

pub returns-clause-crash : goal.returns-clause-crash
returns-clause-crash g c zeroed left may = record {
  count = c.args.size - length c.args.front.now;
  room = omega arith;
  faded = placed_left [] c.args.front.now 0 c.args.size (g.D.Disk.may_leave c.args.disk.now)
      (g.D.Disk.may_leave c.overwrite.new.disk)
      refl zeroed.only c.overwrite.ensures.crash (omega arith) left (c.sync_disk.ensures.crash left may);
}

pub returns-clause-zeroed : goal.returns-clause-zeroed
returns-clause-zeroed g c zeroed =
    let front = c.args.front.now in
    let is : g.D.Disk.seen c.sync_disk.new.disk ≡ front ++ replicate (c.args.size - length front) 0 =
    c.sync_disk.ensures.seen ∙ placed_is [] front (g.D.Disk.seen c.args.disk.now) (g.D.Disk.seen c.overwrite.new.disk) 0
    c.args.size refl zeroed.seen (omega arith)
    c.in_ok-overwrite.ensures.written in
    record { seen = is; only = λ f o. c.in_ok-sync_disk.ensures.durable f o ∙ is }
