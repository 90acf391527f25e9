-- A pool's faults: what they come from, and how they are written.
use Rattle.std.specs.Prelude.{ℕ, List, ◌++◌, codes}
use Rattle.std.specs.Fmt.{decimal}
use Rattle.node_lock.specs.declared.audits.AuditFault.{AuditFault}
use Rattle.node_lock.specs.declared.audits.AuditFault.TheVariants as audit
use Rattle.node_lock.specs.declared.locked.StepFault.{StepFault}
use Rattle.node_lock.specs.declared.locked.StepFault.TheVariants as step
use Rattle.node_lock.specs.declared.report.Cause.{Cause}
use Rattle.node_lock.specs.declared.report.Cause.TheVariants as cause
use Rattle.node_lock.specs.declared.report.PoolFault.{PoolFault}
use Rattle.node_lock.specs.declared.report.PoolFault.TheVariants.{Missing, Doubled, Differs, WorkerFailed, Memory}

abbrev pub cause_of : StepFault → Cause
cause_of (step.Behind seen found) = cause.Behind seen found
cause_of (step.Strange recorded found) = cause.Strange recorded found
cause_of step.Memory = cause.Memory

abbrev pub of_audit_fault : AuditFault → PoolFault
of_audit_fault (audit.Missing place) = Missing place
of_audit_fault (audit.Doubled place) = Doubled place
of_audit_fault (audit.Differs place) = Differs place
of_audit_fault audit.Memory = Memory

abbrev pub cause_text : Cause → List ℕ
cause_text (cause.Behind seen found) = codes "Y1 Behind " ++ decimal seen ++ codes " " ++ decimal found
cause_text (cause.Strange recorded found) = codes "Y2 Strange " ++ decimal recorded ++ codes " " ++ decimal found
cause_text (cause.NoReceipt call) = codes "NoReceipt " ++ decimal call
cause_text cause.Memory = codes "out of memory"

abbrev pub pool_fault_text : PoolFault → List ℕ
pool_fault_text (Missing place) = codes "Z2 Missing " ++ decimal place
pool_fault_text (Doubled place) = codes "Z4 Doubled " ++ decimal place
pool_fault_text (Differs place) = codes "Z3 Differs " ++ decimal place
pool_fault_text (WorkerFailed c) = codes "Z5 WorkerFailed " ++ cause_text c
pool_fault_text Memory = codes "out of memory"
