-- How the code keeps a cluster, and what is asked of a line that was read.
use Rattle.std.specs.Prelude.{◌≡◌, ℕ, ◌<◌, Bool, true, false}
use Rattle.std.specs.Prelude.{⊤, List, codes, Option, Some, None}
use Rattle.quorum_sizes.specs.Sizes.{Counts}
use Rattle.role_commands.specs.Numbers.{split_word}
use Rattle.bracha_instance.specs.Broadcast.{Take}
use Rattle.byz_world.specs.declared.faults.WorldFault.{WorldFault}
use Rattle.byz_world.specs.declared.faults.WorldFault.TheVariants as fault
use Rattle.byz_world.specs.declared.step.Step.{Step}
use Rattle.byz_world.specs.declared.step.Step.TheVariants.{Issue, Give, Lie, Bytes, Client}
use Rattle.lab_scripts.specs.inside.Flags.{flagged}
use Rattle.lab_scripts.specs.Labs as labs
use Rattle.lab_scripts.specs.Orders.{questions_at}
use Rattle.lab_scripts.specs.Reads.{by_its_name}
use Rattle.lab_scripts.specs.declared.given.Given.{Given}
use Rattle.lab_scripts.specs.declared.grammar.LineMessage.{LineMessage}
use Rattle.lab_scripts.specs.declared.lab.Lab.{Lab}
use Rattle.lab_scripts.specs.declared.orders.ScriptLine.{ScriptLine}
use Rattle.lab_scripts.specs.declared.orders.ScriptLine.TheVariants.{Do, Flush, Settle, Rest, Ask, Reach, Agree}

abbrev pub given_in : Given → (ℕ → Bool)
given_in given = labs.with_all_below (flagged given.flags.items) given.least

-- what the code keeps is this cluster
abbrev pub lab_in : Lab → labs.Lab
lab_in lab = record { world = lab.world; given = given_in lab.given }

-- the number of the packet that a step gives
abbrev pub packet_given : Step → Option ℕ
packet_given (Give number) = Some number
packet_given (Issue node command) = None
packet_given (Lie packet) = None
packet_given (Bytes to bytes) = None
packet_given (Client node act) = None

-- the owner whose reach is asked for is a node of these sizes
abbrev pub IsWithinSizes : Counts → ScriptLine → Type 0
IsWithinSizes s (Do step) = ⊤
IsWithinSizes s Flush = ⊤
IsWithinSizes s Settle = ⊤
IsWithinSizes s Rest = ⊤
IsWithinSizes s (Ask node question) = ⊤
IsWithinSizes s (Reach node owner) = owner < s.nodes
IsWithinSizes s (Agree one other owner) = ⊤

-- a line with bytes
abbrev pub NamesBytes : List ℕ → Type 0
NamesBytes line = (text : List ℕ) × (split_word line ≡ Some (codes "bytes", text))

-- what is asked at a node, by the name of the line
unfoldable pub question_at_node : Counts → List ℕ → ℕ → List ℕ → Option ScriptLine
question_at_node s name node text = by_its_name (questions_at s node) name text

-- the message that was said
abbrev pub take_said : LineMessage → Take
take_said said = record { kind = said.kind; from = said.from; command = said.command }

abbrev pub is_want_of_memory : WorldFault → Bool
is_want_of_memory fault.TooManyLiars = false
is_want_of_memory fault.NotCorrect = false
is_want_of_memory fault.NoSuchPacket = false
is_want_of_memory fault.NotSent = false
is_want_of_memory fault.PoolFull = false
is_want_of_memory (fault.Link f) = false
is_want_of_memory (fault.Node f) = false
is_want_of_memory fault.NoSession = false
is_want_of_memory fault.Memory = true
