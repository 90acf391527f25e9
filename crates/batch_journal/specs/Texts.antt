-- How a fault is written: its code, a space and its name.
use Rattle.std.specs.Prelude.{ℕ, List, codes}
use Rattle.batch_journal.specs.declared.fault.JournalFault.{JournalFault}
use Rattle.batch_journal.specs.declared.fault.JournalFault.TheVariants as fault

abbrev pub journal_fault_text : JournalFault → List ℕ
journal_fault_text fault.NotAJournal = codes "D3 NotAJournal"
journal_fault_text fault.OtherVersion = codes "D4 OtherVersion"
journal_fault_text fault.OtherCluster = codes "D5 OtherCluster"
journal_fault_text fault.OtherNode = codes "D6 OtherNode"
journal_fault_text fault.OtherSizes = codes "D7 OtherSizes"
journal_fault_text fault.OtherRoles = codes "D8 OtherRoles"
journal_fault_text fault.OtherLimit = codes "D9 OtherLimit"
journal_fault_text fault.OtherKey = codes "D10 OtherKey"
journal_fault_text (fault.Damaged batch) = codes "D11 Damaged"
journal_fault_text fault.Unopened = codes "D13 Unopened"
journal_fault_text fault.OtherKind = codes "D14 OtherKind"
journal_fault_text fault.OtherGeneration = codes "D15 OtherGeneration"
journal_fault_text fault.OtherLength = codes "D16 OtherLength"
journal_fault_text fault.NotBlank = codes "D17 NotBlank"
journal_fault_text fault.SecondFile = codes "D18 SecondFile"
journal_fault_text fault.Full = codes "D19 Full"
journal_fault_text fault.Device = codes "device"
journal_fault_text fault.Memory = codes "out of memory"
