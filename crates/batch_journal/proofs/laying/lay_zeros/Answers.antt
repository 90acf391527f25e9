use Rattle.std.proofs.Common.{◌≡◌, ◌+◌, ◌-◌, length, replicate, ap}
use Rattle.std.proofs.Common.{◌∙◌, arith}
use Rattle.batch_journal.proofs.LayingLemmas.{zeros_left, zeros_are}
use Rattle.batch_journal.proofs.laying.lay_zeros.Goals as goal

pub returns-in_err-sync_disk-clause-crash : goal.returns-in_err-sync_disk-clause-crash
returns-in_err-sync_disk-clause-crash g c zeroed left may =
    zeros_left (g.D.Disk.may_leave c.args.disk.now) (g.D.Disk.may_leave c.overwrite.new.disk) c.args.zeros.now left
    c.args.size (omega (arith, c.requires.size.0))
    c.requires.zeros zeroed.only c.overwrite.ensures.crash (c.sync_disk.ensures.crash left may)

pub returns-clause-zeroed : goal.returns-clause-zeroed
returns-clause-zeroed g c zeroed =
    let zeros = c.args.zeros.now in
    let is : g.D.Disk.seen c.sync_disk.new.disk ≡ replicate (length zeros + (c.args.size - length zeros)) 0 =
    c.sync_disk.ensures.seen ∙ zeros_are (g.D.Disk.seen c.args.disk.now) (g.D.Disk.seen c.overwrite.new.disk) zeros
    c.args.size c.requires.zeros zeroed.seen
    c.in_ok-overwrite.ensures.written in
    let size : length zeros + (c.args.size - length zeros) ≡ length zeros + c.saturating_sub.result = omega arith in
    let all : g.D.Disk.seen c.sync_disk.new.disk ≡ replicate (length zeros + c.saturating_sub.result) 0 = is
    ∙ ap (λ n. replicate n 0) size in
    record { seen = all; only = λ f o. c.in_ok-sync_disk.ensures.durable f o ∙ all }
