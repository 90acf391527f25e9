-- How a fault of the world is written: its code, a space and its name.
use Rattle.std.specs.Prelude.{ℕ, List, codes}
use Rattle.link_frames.specs.Texts.{link_fault_text}
use Rattle.role_node.specs.Faults.{node_fault_text}
use Rattle.byz_world.specs.declared.faults.WorldFault.{WorldFault}
use Rattle.byz_world.specs.declared.faults.WorldFault.TheVariants.{TooManyLiars, NotCorrect, NoSuchPacket, NotSent}
use Rattle.byz_world.specs.declared.faults.WorldFault.TheVariants.{PoolFull, Link, Node, NoSession, Memory}

abbrev pub world_fault_text : WorldFault → List ℕ
world_fault_text TooManyLiars = codes "V1 TooManyLiars"
world_fault_text NotCorrect = codes "V2 NotCorrect"
world_fault_text NoSuchPacket = codes "V3 NoSuchPacket"
world_fault_text NotSent = codes "V4 NotSent"
world_fault_text PoolFull = codes "V5 PoolFull"
world_fault_text (Link fault) = link_fault_text fault
world_fault_text (Node fault) = node_fault_text fault
world_fault_text NoSession = codes "N1 NoSession"
world_fault_text Memory = codes "out of memory"
