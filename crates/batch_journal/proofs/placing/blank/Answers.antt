use Rattle.std.proofs.Common.{inr, ◌++◌, ◌∙◌}
use Rattle.sqlite_disk.specs.Disk.{Only}
use Rattle.batch_journal.proofs.Overwriting.{blanked_left}
use Rattle.batch_journal.proofs.placing.blank.Goals as goal

pub returns-in_err-overwrite-clause-crash : goal.returns-in_err-overwrite-clause-crash
returns-in_err-overwrite-clause-crash g c front rest size same is left may =
    let settled = c.in_ok-sync_disk.ensures.durable in
    let only : Only (front ++ rest) (g.D.Disk.may_leave c.sync_disk.new.disk) = λ f o. settled f o
    ∙ c.sync_disk.ensures.seen ∙ is in
    inr (blanked_left front rest c.args.zeros.now c.args.end (g.D.Disk.may_leave c.sync_disk.new.disk)
    (g.D.Disk.may_leave c.overwrite.new.disk)
    size same c.requires.zeros only c.overwrite.ensures.crash left may)

pub returns-in_err-sync_disk-2-clause-crash : goal.returns-in_err-sync_disk-2-clause-crash
returns-in_err-sync_disk-2-clause-crash g c front rest size same is left may =
    let settled = c.in_ok-sync_disk.ensures.durable in
    let only : Only (front ++ rest) (g.D.Disk.may_leave c.sync_disk.new.disk) = λ f o. settled f o
    ∙ c.sync_disk.ensures.seen ∙ is in
    inr (blanked_left front rest c.args.zeros.now c.args.end (g.D.Disk.may_leave c.sync_disk.new.disk)
    (g.D.Disk.may_leave c.overwrite.new.disk)
    size same c.requires.zeros only c.overwrite.ensures.crash left (c.sync_disk-2.ensures.crash left may))

pub returns-clause-crash : goal.returns-clause-crash
returns-clause-crash g c front rest size same is left may =
    let settled = c.in_ok-sync_disk.ensures.durable in
    let only : Only (front ++ rest) (g.D.Disk.may_leave c.sync_disk.new.disk) = λ f o. settled f o
    ∙ c.sync_disk.ensures.seen ∙ is in
    inr (blanked_left front rest c.args.zeros.now c.args.end (g.D.Disk.may_leave c.sync_disk.new.disk)
    (g.D.Disk.may_leave c.overwrite.new.disk)
    size same c.requires.zeros only c.overwrite.ensures.crash left (c.sync_disk-2.ensures.crash left may))
