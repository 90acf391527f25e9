-- How a fault is written: its code, a space and its name.
use Rattle.std.specs.Prelude.{◌≢◌, ℕ, List, codes, Option, Some, None}
use Rattle.role_sessions.specs.declared.faults.SessionFault.TheVariants as session
use Rattle.role_node.specs.Faults.{node_fault_text}
use Rattle.role_node.specs.declared.faults.NodeFault.{NodeFault}
use Rattle.role_node.specs.declared.faults.NodeFault.TheVariants as node
use Rattle.client_lines.specs.declared.fault.LineFault.{LineFault}
use Rattle.client_lines.specs.declared.fault.LineFault.TheVariants.{NotJson, NotObject, NoOp, UnknownOp}
use Rattle.client_lines.specs.declared.fault.LineFault.TheVariants.{Missing, OutOfRange, Memory}
use Rattle.client_lines.specs.declared.member.Member.{Member}

abbrev pub line_fault_text : LineFault → List ℕ
line_fault_text NotJson = codes "J1 NotJson"
line_fault_text NotObject = codes "J2 NotObject"
line_fault_text NoOp = codes "J3 NoOp"
line_fault_text UnknownOp = codes "J4 UnknownOp"
line_fault_text (Missing member) = codes "J5 Missing"
line_fault_text (OutOfRange member) = codes "J6 OutOfRange"
line_fault_text Memory = codes "out of memory"

-- the member that a fault names
abbrev pub named_member : LineFault → Option Member
named_member NotJson = None
named_member NotObject = None
named_member NoOp = None
named_member UnknownOp = None
named_member (Missing member) = Some member
named_member (OutOfRange member) = Some member
named_member Memory = None

-- a node's fault, without the numbers that it holds
abbrev pub node_fault_name : NodeFault → List ℕ
node_fault_name node.NotMine = node_fault_text node.NotMine
node_fault_name node.StreamFull = node_fault_text node.StreamFull
node_fault_name node.Busy = node_fault_text node.Busy
node_fault_name node.Full = node_fault_text node.Full
node_fault_name node.Misrouted = node_fault_text node.Misrouted
node_fault_name (node.Beyond place end) = codes "S1 Beyond"
node_fault_name (node.Session fault) = node_fault_text (node.Session fault)
node_fault_name (node.End fault) = node_fault_text (node.End fault)
node_fault_name node.Memory = node_fault_text node.Memory

-- it is not want of memory
abbrev pub IsRefusal : NodeFault → Type 0
IsRefusal fault = (fault ≢ node.Memory) × (fault ≢ node.Session session.Memory)
