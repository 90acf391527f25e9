-- The exit status of a program whose journal is refused.
use Rattle.std.specs.Prelude.{ℕ}
use Rattle.batch_journal.specs.declared.fault.JournalFault.{JournalFault}
use Rattle.batch_journal.specs.declared.fault.JournalFault.TheVariants as journal
use Rattle.node_journal.specs.declared.fault.KeptFault.{KeptFault}
use Rattle.node_journal.specs.declared.fault.KeptFault.TheVariants as kept

abbrev pub journal_status : JournalFault → ℕ
journal_status journal.Device = 4
journal_status journal.Memory = 5
journal_status fault = 6

abbrev pub kept_status : KeptFault → ℕ
kept_status kept.Absent = 6
kept_status kept.InUse = 4
kept_status kept.Illegal = 6
kept_status kept.Unopened = 6
kept_status (kept.Journal fault) = journal_status fault
