-- The exit status of a program at each fault of a cluster text or its file.
use Rattle.std.specs.Prelude.{ℕ}
use Rattle.cluster_text.specs.declared.fault.ClusterFault.{ClusterFault}
use Rattle.cluster_text.specs.declared.fault.ClusterFault.TheVariants as cluster
use Rattle.cluster_text.specs.declared.fault.FileFault.{FileFault}
use Rattle.cluster_text.specs.declared.fault.FileFault.TheVariants as file

abbrev pub cluster_status : ClusterFault → ℕ
cluster_status cluster.NotJson = 3
cluster_status cluster.NotObject = 3
cluster_status (cluster.Missing member) = 3
cluster_status (cluster.OutOfRange member) = 3
cluster_status (cluster.Sizes fault) = 3
cluster_status (cluster.Table fault) = 3
cluster_status cluster.Memory = 5

abbrev pub file_status : FileFault → ℕ
file_status file.Unread = 3
file_status (file.Cluster fault) = cluster_status fault
file_status file.Memory = 5
