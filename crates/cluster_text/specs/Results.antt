-- An answer that is the one that is due, or want of memory.
use Rattle.std.specs.Prelude.{◌≡◌, ◌⊎◌, Result, Err, IsOk}
use Rattle.cluster_text.specs.declared.fault.ClusterFault.{ClusterFault}
use Rattle.cluster_text.specs.declared.fault.ClusterFault.TheVariants.{Memory}

abbrev pub IsDueOrMemory : {A : Type 0} → Result A ClusterFault → Result A ClusterFault → Type 0
IsDueOrMemory due result = (result ≡ due) ⊎ (result ≡ Err Memory)

-- want of memory comes last: only where no fault is due
abbrev pub IsDueElseMemory : {A : Type 0} → Result A ClusterFault → Result A ClusterFault → Type 0
IsDueElseMemory due result = (result ≡ due) ⊎ ((result ≡ Err Memory) × IsOk due)
