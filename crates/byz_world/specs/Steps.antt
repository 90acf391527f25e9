-- What a step of the world does: the node and the event that it comes to, its answer, and the run after it.
use Rattle.std.specs.Prelude.{◌≡◌, ⊤, ℕ, ◌+◌, Bool, not, ◌&&◌, nat_lt, IsTrue, List, [], if◌then◌else◌}
use Rattle.std.specs.Prelude.{◌∷◌, ◌++◌, length, slice_get, is_some, Option, Some, None, Result, Ok, Err}
use Rattle.link_frames.specs.frames.Opening.{open_due}
use Rattle.link_frames.specs.frames.Packets.{PacketValue, IsSound, message_of}
use Rattle.link_frames.specs.declared.frames.opening.LinkFault.{LinkFault}
use Rattle.role_node.specs.Nodes.{due_at}
use Rattle.role_node.specs.Answers.{is_recorded, sent_by}
use Rattle.role_node.specs.declared.event.Event.{Event}
use Rattle.role_node.specs.declared.event.Event.TheVariants as event
use Rattle.role_node.specs.declared.event.Reply.{Reply}
use Rattle.role_node.specs.declared.faults.NodeFault.{NodeFault}
use Rattle.byz_world.specs.Runs.{Run, has_sent}
use Rattle.byz_world.specs.Pools.{pool}
use Rattle.byz_world.specs.LabKeys.{lab_ring}
use Rattle.byz_world.specs.Worlds.{WorldValue, is_correct_in, node_in}
use Rattle.byz_world.specs.declared.step.Step.{Step}
use Rattle.byz_world.specs.declared.step.Step.TheVariants.{Issue, Give, Lie, Bytes, Client}
use Rattle.byz_world.specs.declared.step.StepReply.{StepReply}
use Rattle.byz_world.specs.declared.step.StepReply.TheVariants.{Absorbed, Node}
use Rattle.byz_world.specs.declared.faults.WorldFault.{WorldFault}
use Rattle.byz_world.specs.declared.faults.WorldFault.TheVariants as fault

-- the pool has no room for one more message to all nodes
abbrev pub is_pool_full : WorldValue → Bool
is_pool_full w = nat_lt w.config.limit (length (pool w.config w.run) + w.config.roles.sizes.nodes)

-- the node and the event that a step comes to; a packet to a liar comes to none
abbrev pub Arrival : Type 0
Arrival = Result (Option (ℕ × Event)) WorldFault

abbrev pub unless_pool_full : WorldValue → ℕ × Event → Arrival
unless_pool_full w pair = if is_pool_full w then Err fault.PoolFull else Ok (Some pair)

-- a packet is absorbed by a liar
abbrev pub arrives : WorldValue → PacketValue → Arrival
arrives w p = if is_correct_in w p.to then unless_pool_full w (p.to, event.Take p) else Ok None

-- a packet in the name of a correct node that the node has not sent
abbrev pub is_forged : WorldValue → PacketValue → Bool
is_forged w p = is_correct_in w p.from && not (has_sent w.config.roles.sizes w.run p.from (message_of p))

-- a packet that anybody may have sent: where it is forged it is refused
abbrev pub unless_forged : WorldValue → PacketValue → Arrival
unless_forged w p = if is_forged w p then Err fault.NotSent else arrives w p

-- what comes of opening bytes at a correct node: the packet whose frame they are, or the first fault of the link
abbrev pub opened_at : WorldValue → ℕ → List ℕ → Option (Result PacketValue LinkFault)
opened_at w to bytes =
    if is_correct_in w to then Some (open_due (lab_ring w.config.roles.sizes to) w.config.cluster bytes) else None

abbrev pub of_opened : WorldValue → Option (Result PacketValue LinkFault) → Arrival
of_opened w None = Err fault.NotCorrect
of_opened w (Some (Err f)) = Err (fault.Link f)
of_opened w (Some (Ok p)) = unless_forged w p

-- packet K of the pool is given
abbrev pub given : WorldValue → Option PacketValue → Arrival
given w None = Err fault.NoSuchPacket
given w (Some p) = arrives w p

-- Where a step arrives, or the first refusal that holds before its node is asked.
abbrev pub arrival : WorldValue → Step → Arrival
arrival w (Issue node command) =
    if is_correct_in w node then unless_pool_full w (node, event.Issue command) else Err fault.NotCorrect
arrival w (Give packet) = given w (slice_get (pool w.config w.run) packet)
arrival w (Lie p) =
    if not (nat_lt p.from w.config.roles.sizes.nodes && nat_lt p.to w.config.roles.sizes.nodes)
    then Err fault.NotCorrect else unless_forged w p
arrival w (Bytes to bytes) = of_opened w (opened_at w to bytes)
arrival w (Client node act) = if is_correct_in w node then Ok (Some (node, event.Client act)) else Err fault.NotCorrect

-- the node's answer, where the pool has these packets so far: a message it sends is a packet to each node
abbrev pub of_reply : WorldValue → Reply → StepReply
of_reply w r = Node r (length (pool w.config w.run)) (if is_some (sent_by r) then w.config.roles.sizes.nodes else 0)

abbrev pub of_answer : WorldValue → Result Reply NodeFault → Result StepReply WorldFault
of_answer w (Ok r) = Ok (of_reply w r)
of_answer w (Err f) = Err (fault.Node f)

abbrev pub answer_of : WorldValue → Arrival → Result StepReply WorldFault
answer_of w (Ok (Some pair)) = of_answer w (due_at (node_in w pair.0) pair.1)
answer_of w (Ok None) = Ok Absorbed
answer_of w (Err f) = Err f

-- The answer that is due to a step, memory apart.
unfoldable pub step_due : WorldValue → Step → Result StepReply WorldFault
step_due w step = answer_of w (arrival w step)

-- whether the node that the step comes to records its event
abbrev pub recorded_pair : WorldValue → Arrival → List (ℕ × Event)
recorded_pair w (Ok (Some pair)) = if is_recorded (due_at (node_in w pair.0) pair.1) then pair ∷ [] else []
recorded_pair w (Ok None) = []
recorded_pair w (Err f) = []

abbrev pub with_run : WorldValue → Run → WorldValue
with_run w run = record { config = w.config; liars = w.liars; run = run }

-- The world after a step: an event that its node records is one pair more.
unfoldable pub after_step : WorldValue → Step → WorldValue
after_step w step = with_run w (w.run ++ recorded_pair w (arrival w step))

-- the world after these steps
unfoldable pub after_steps : WorldValue → List Step → WorldValue
after_steps w [] = w
after_steps w (step ∷ steps) = after_steps (after_step w step) steps

-- whether the step adds to the run
abbrev pub adds : WorldValue → Step → Bool
adds w step = nat_lt 0 (length (recorded_pair w (arrival w step)))

-- the answer is the one that is due; want of memory comes last, where the step would add to the run
abbrev pub IsStepAnswer : WorldValue → Step → Result StepReply WorldFault → Type 0
IsStepAnswer w step (Err fault.Memory) = IsTrue (adds w step)
IsStepAnswer w step answer = step_due w step ≡ answer

-- a packet that a step brings is one: a SEND comes from its owner, and its place is one of a stream. What bytes open
-- to is one whichever they are
abbrev pub IsSoundStep : Step → Type 0
IsSoundStep (Issue node command) = ⊤
IsSoundStep (Give packet) = ⊤
IsSoundStep (Lie p) = IsSound p
IsSoundStep (Bytes to bytes) = ⊤
IsSoundStep (Client node act) = ⊤
