-- The exit status of a program at each fault of a pipe.
use Rattle.std.specs.Prelude.{ℕ}
use Rattle.cluster_text.specs.Statuses.{cluster_status}
use Rattle.line_pipe.specs.declared.fault.PipeFault.{PipeFault}
use Rattle.line_pipe.specs.declared.fault.PipeFault.TheVariants.{Cluster, Device, Memory}

abbrev pub pipe_status : PipeFault → ℕ
pipe_status (Cluster fault) = cluster_status fault
pipe_status Device = 4
pipe_status Memory = 5
