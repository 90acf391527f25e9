-- The exit status of a program at each fault of a cluster file.
use Rattle.std.specs.Prelude.{ℕ}
use Rattle.cluster_text.specs.Statuses.{cluster_status}
use Rattle.cluster_hosts.specs.declared.fault.GivenFault.{GivenFault}
use Rattle.cluster_hosts.specs.declared.fault.GivenFault.TheVariants as given

abbrev pub given_status : GivenFault → ℕ
given_status given.Unread = 3
given_status (given.Reserved member) = 3
given_status (given.Cluster fault) = cluster_status fault
given_status given.Hosts = 3
given_status given.Memory = 5
