use Rattle.std.proofs.Common.{◌≡◌, ◌∙◌, ap, ℕ, List, ◌∷◌, [], ◌++◌}
use Rattle.std.specs.Prelude.{IsTrue}
use Rattle.batch_journal.specs.Faults.{Failed}
use Rattle.batch_journal.specs.declared.fault.JournalFault.{JournalFault}
use Rattle.batch_journal.specs.declared.fault.JournalFault.TheVariants as journal_fault
use Rattle.kept_node.proofs.CallLemmas.{at_err, on_err}
use Rattle.kept_node.proofs.KeptLemmas.{failed_at_all}
use Rattle.kept_node.proofs.kept.commit.Goals as goal

pub returns-in-Ok-clause-device : goal.returns-in-Ok-clause-device
returns-in-Ok-clause-device g c was device =
    let e = at_err c.sync.result journal_fault.Device (λ (x : JournalFault). (x ≡ journal_fault.Device)
    × IsTrue c.sync.new.self.broken × (c.sync.new.self.synced ≡ c.write.new.self.synced)) device c.sync.ensures.err in
    let failed = on_err c.sync.result journal_fault.Device
    (Failed (g.D.Disk.faults c.write.new.self.disk) (g.D.Disk.faults c.sync.new.self.disk)
    (g.D.Disk.is_mixing c.sync.new.self.disk)) device (c.sync.ensures.failed c.in-Ok.ensures.whole) in (
      e.1,
      record {
        batches = λ h. c.sync.ensures.batches (c.write.ensures.same.clean ∙ h) ∙ c.in-Ok.ensures.ok.batches h
            ∙ ap (λ (l : List ℕ). c.args.journal.now.batches ++ l ∷ []) c.deref.ensures.value;
        synced = λ h. e.2 ∙ c.in-Ok.ensures.ok.synced h;
      },
      c.clear.ensures.items,
      failed_at_all (g.D.Disk.faults c.write.new.self.disk) (g.D.Disk.faults c.sync.new.self.disk)
          (g.D.Disk.is_mixing c.sync.new.self.disk) failed,
    )
