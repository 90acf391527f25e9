-- How a fault is written, and what a lower layer's fault is here.
use Rattle.std.specs.Prelude.{ℕ, List, ◌++◌, codes}
use Rattle.std.specs.Fmt.{decimal}
use Rattle.owner_streams.specs.declared.steps.StreamFault.{StreamFault}
use Rattle.owner_streams.specs.declared.steps.StreamFault.TheVariants as stream
use Rattle.role_sessions.specs.declared.faults.SessionFault.{SessionFault}
use Rattle.role_sessions.specs.declared.faults.SessionFault.TheVariants as session
use Rattle.role_sessions.specs.Refusals.{session_fault_text, end_fault_text}
use Rattle.role_node.specs.declared.faults.NodeFault.{NodeFault}
use Rattle.role_node.specs.declared.faults.NodeFault.TheVariants.{NotMine, StreamFull, Busy, Full}
use Rattle.role_node.specs.declared.faults.NodeFault.TheVariants.{Misrouted, Beyond, Session, End, Memory}
use Rattle.role_node.specs.declared.faults.AskFault.{AskFault}
use Rattle.role_node.specs.declared.faults.AskFault.TheVariants as ask

abbrev pub node_fault_text : NodeFault → List ℕ
node_fault_text NotMine = codes "F1 NotMine"
node_fault_text StreamFull = codes "F2 StreamFull"
node_fault_text Busy = codes "F3 Busy"
node_fault_text Full = codes "F4 Full"
node_fault_text Misrouted = codes "F5 Misrouted"
node_fault_text (Beyond place end) = codes "S1 Beyond " ++ decimal place ++ codes " " ++ decimal end
node_fault_text (Session fault) = session_fault_text fault
node_fault_text (End fault) = end_fault_text fault
node_fault_text Memory = codes "out of memory"

abbrev pub ask_fault_text : AskFault → List ℕ
ask_fault_text ask.NoSession = codes "N1 NoSession"
ask_fault_text ask.Memory = codes "out of memory"

-- the fault of a packet
abbrev pub of_stream_fault : StreamFault → NodeFault
of_stream_fault (stream.Beyond place end) = Beyond place end
of_stream_fault stream.Memory = Memory

-- the fault of a client's act
abbrev pub of_session_fault : SessionFault → NodeFault
of_session_fault session.Memory = Memory
of_session_fault fault = Session fault
