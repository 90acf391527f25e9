use Rattle.node_journal.proofs.RefusalLemmas.{not_made}
use Rattle.node_journal.proofs.keeping.begin.Goals as goal

pub returns-in-Err-clause-why : goal.returns-in-Err-clause-why
returns-in-Err-clause-why g c =
    not_made g.D.Disk.seen g.D.Disk.faults g.D.Disk.is_clean g.D.Disk.is_mixing c.args.files c.in-Err._files
    c.in-Err.fault c.in-Err.ensures.why
