-- How a fault is written: its code, a space and its name.
use Rattle.std.specs.Prelude.{ℕ, List, codes, Option, Some, None}
use Rattle.operator_lines.specs.declared.fault.OperatorFault.{OperatorFault}
use Rattle.operator_lines.specs.declared.fault.OperatorFault.TheVariants.{Missing, OutOfRange, Memory}
use Rattle.operator_lines.specs.declared.fault.ServingFault.{ServingFault}
use Rattle.operator_lines.specs.declared.fault.ServingFault.TheVariants.{BegunTwice, StreamFull, Full}
use Rattle.operator_lines.specs.declared.member.OperatorMember.{OperatorMember}

abbrev pub operator_fault_text : OperatorFault → List ℕ
operator_fault_text (Missing member) = codes "J5 Missing"
operator_fault_text (OutOfRange member) = codes "J6 OutOfRange"
operator_fault_text Memory = codes "out of memory"

-- the member that a fault names
abbrev pub named_member : OperatorFault → Option OperatorMember
named_member (Missing member) = Some member
named_member (OutOfRange member) = Some member
named_member Memory = None

abbrev pub serving_fault_text : ServingFault → List ℕ
serving_fault_text BegunTwice = codes "F6 BegunTwice"
serving_fault_text StreamFull = codes "F2 StreamFull"
serving_fault_text Full = codes "F4 Full"
