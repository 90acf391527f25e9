use Rattle.std.proofs.Common.{◌≡◌, ◌+◌, ◌-◌, ◌++◌, length, replicate, refl, ◌∙◌}
use Rattle.batch_journal.proofs.Overwriting.{grown_is}
use Rattle.batch_journal.proofs.placing.make_room.Goals as goal

pub returns-clause-zeroed : goal.returns-clause-zeroed
returns-clause-zeroed g c front first zeroed =
    let n = c.args.size + length c.args.zeros.now in
    let is : g.D.Disk.seen c.grow.new.disk ≡ front ++ replicate (n - c.args.end) 0 =
    grown_is front c.args.zeros.now (g.D.Disk.seen c.args.disk.now) (g.D.Disk.seen c.grow.new.disk) c.args.end
    c.args.size n first c.requires.within zeroed.seen
    c.requires.zeros refl c.in_ok-grow.ensures.seen in
    record { seen = is; only = λ f o. c.in_ok-grow.ensures.durable f o ∙ is }
