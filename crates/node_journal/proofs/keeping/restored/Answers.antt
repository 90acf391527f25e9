use Rattle.std.proofs.Common.{sym, subst}
use Rattle.role_node.specs.Nodes.{NodeValue}
use Rattle.node_journal.specs.Refusals.{IsNotRestored, fault_in}
use Rattle.node_journal.specs.declared.fault.KeptFault.{KeptFault}
use Rattle.node_journal.proofs.RefusalLemmas.{not_restored}
use Rattle.node_journal.proofs.keeping.restored.Goals as goal

pub returns-in-Err-clause-why : goal.returns-in-Err-clause-why
returns-in-Err-clause-why g c =
    subst (λ (e : KeptFault). IsNotRestored g.D.Disk.seen g.D.Disk.faults g.D.Disk.is_clean g.D.Disk.is_mixing
    c.args.key.now c.args.config c.args.me c.args.files e) (sym c.fault_in.ensures)
    (subst (λ (n : NodeValue). IsNotRestored g.D.Disk.seen g.D.Disk.faults g.D.Disk.is_clean g.D.Disk.is_mixing
    c.args.key.now n.config n.me c.args.files (fault_in c.in-Err.unrestored)) c.in_ok-locked.ensures.node
    (not_restored g.D.Disk.seen g.D.Disk.faults g.D.Disk.is_clean g.D.Disk.is_mixing c.args.key.now
    c.in_ok-locked.locked.node.config c.in_ok-locked.locked.node.me c.args.files c.in-Err.unrestored
    c.in-Err.ensures.why))
