-- The exit status of the program at each fault.
use Rattle.std.specs.Prelude.{ℕ}
use Rattle.cluster_hosts.specs.Statuses.{given_status}
use Rattle.node_journal.specs.Statuses.{kept_status}
use Rattle.tundelca.specs.declared.fault.Fault.{Fault}
use Rattle.tundelca.specs.declared.fault.Fault.TheVariants as program
use Rattle.tundelca.specs.declared.fault.WordsFault.{WordsFault}
use Rattle.tundelca.specs.declared.fault.WordsFault.TheVariants as words

abbrev pub words_status : WordsFault → ℕ
words_status (words.Refused text) = 2
words_status words.Memory = 5

abbrev pub status : Fault → ℕ
status (program.Words fault) = words_status fault
status (program.Given fault) = given_status fault
status (program.Kept fault) = kept_status fault
status (program.Socket path why) = 4
status program.Device = 4
status program.Memory = 5
