-- The exit status of the program at each fault.
use Rattle.std.specs.Prelude.{ℕ, Bool, true, false}
use Rattle.cluster_text.specs.Statuses.{file_status}
use Rattle.line_pipe.specs.Statuses.{pipe_status}
use Rattle.role_daemon.specs.declared.fault.DaemonFault.{DaemonFault}
use Rattle.role_daemon.specs.declared.fault.DaemonFault.TheVariants as daemon
use Rattle.cluster_text.specs.declared.fault.FileFault.TheVariants as file
use Rattle.line_pipe.specs.declared.fault.PipeFault.TheVariants as pipe
use Rattle.role_daemon.specs.declared.fault.ServeFault.{ServeFault}
use Rattle.role_daemon.specs.declared.fault.ServeFault.TheVariants as serve
use Rattle.role_daemon.specs.declared.fault.WordsFault.{WordsFault}
use Rattle.role_daemon.specs.declared.fault.WordsFault.TheVariants as words

abbrev pub words_status : WordsFault → ℕ
words_status words.Refused = 2
words_status words.Memory = 5

abbrev pub serve_status : ServeFault → ℕ
serve_status serve.Device = 4
serve_status serve.Memory = 5

abbrev pub daemon_status : DaemonFault → ℕ
daemon_status (daemon.Words fault) = words_status fault
daemon_status (daemon.File fault) = file_status fault
daemon_status (daemon.Pipe fault) = pipe_status fault
daemon_status (daemon.Serve fault) = serve_status fault

-- it is about what the program was given: its words, or a cluster text or its file
abbrev pub is_said : DaemonFault → Bool
is_said (daemon.Words words.Refused) = true
is_said (daemon.Words words.Memory) = false
is_said (daemon.File file.Unread) = true
is_said (daemon.File (file.Cluster fault)) = true
is_said (daemon.File file.Memory) = false
is_said (daemon.Pipe (pipe.Cluster fault)) = true
is_said (daemon.Pipe pipe.Device) = false
is_said (daemon.Pipe pipe.Memory) = false
is_said (daemon.Serve fault) = false
