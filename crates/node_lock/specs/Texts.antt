-- How a fault is written.
use Rattle.std.specs.Prelude.{ℕ, List, ◌++◌, codes}
use Rattle.std.specs.Fmt.{decimal}
use Rattle.node_lock.specs.declared.audits.AuditFault.{AuditFault}
use Rattle.node_lock.specs.declared.audits.AuditFault.TheVariants as audit
use Rattle.node_lock.specs.declared.inbox.InboxFault.{InboxFault}
use Rattle.node_lock.specs.declared.inbox.InboxFault.TheVariants as inbox
use Rattle.node_lock.specs.declared.locked.StepFault.{StepFault}
use Rattle.node_lock.specs.declared.locked.StepFault.TheVariants.{Behind, Strange, Memory}
use Rattle.node_lock.specs.declared.shared.CloseFault.{CloseFault}
use Rattle.node_lock.specs.declared.shared.CloseFault.TheVariants.{SeatMissing}

abbrev pub step_fault_text : StepFault → List ℕ
step_fault_text (Behind seen found) = codes "Y1 Behind " ++ decimal seen ++ codes " " ++ decimal found
step_fault_text (Strange recorded found) = codes "Y2 Strange " ++ decimal recorded ++ codes " " ++ decimal found
step_fault_text Memory = codes "out of memory"

abbrev pub audit_fault_text : AuditFault → List ℕ
audit_fault_text (audit.Missing place) = codes "Z2 Missing " ++ decimal place
audit_fault_text (audit.Doubled place) = codes "Z4 Doubled " ++ decimal place
audit_fault_text (audit.Differs place) = codes "Z3 Differs " ++ decimal place
audit_fault_text audit.Memory = codes "out of memory"

abbrev pub close_fault_text : {L : Type 0} → CloseFault L → List ℕ
close_fault_text (SeatMissing node seats) = codes "Z1 SeatMissing"

abbrev pub inbox_fault_text : InboxFault → List ℕ
inbox_fault_text (inbox.PassMissing i passes) = codes "Z6 PassMissing"
inbox_fault_text (inbox.Memory i passes) = codes "out of memory"
