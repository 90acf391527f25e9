-- What holds of a world's fields. Serves the code, and no public contract.
use Rattle.std.specs.Prelude.{◌≡◌, ⊤, ℕ, ◌≤◌, ◌==◌, Bool, true, false, IsTrue, Result, Ok, if◌then◌else◌}
use Rattle.std.specs.Prelude.{Err, List, [], ◌∷◌, ◌++◌, length, count_by, slice_get, is_some}
use Rattle.std.specs.Prelude.{Option, Some, None, option_map, option_and_then}
use Rattle.quorum_sizes.specs.NodeSets.{Nodes}
use Rattle.role_node.specs.Configs.{ConfigValue, most_events}
use Rattle.role_node.specs.Nodes.{NodeValue}
use Rattle.role_node.specs.declared.event.Event.{Event}
use Rattle.role_node.specs.declared.event.Event.TheVariants.{Issue, Take, Client}
use Rattle.link_frames.specs.frames.Packets.{PacketValue, IsSound, message_of, packet_due}
use Rattle.bracha_instance.specs.declared.instance.Effect.{Effect}
use Rattle.bracha_instance.specs.declared.instance.Effect.TheVariants.{Idle, Counted}
use Rattle.role_node.specs.Answers.{outlook, sent_by}
use Rattle.role_node.specs.declared.faults.NodeFault.{NodeFault}
use Rattle.std.specs.List.{list_all}
use Rattle.byz_world.specs.Runs.{Run, IsCorrect, has_sent, IsClusterRun}
use Rattle.byz_world.specs.Pools.{Sent, listed, messages, pool}
use Rattle.byz_world.specs.Worlds.{WorldValue, node_due}
use Rattle.role_node.specs.declared.event.Reply.{Reply}
use Rattle.role_node.specs.declared.event.Reply.TheVariants as reply
use Rattle.byz_world.specs.Steps.{is_pool_full, Arrival}
use Rattle.byz_world.specs.declared.step.StepOutcome.{StepOutcome}
use Rattle.byz_world.specs.declared.step.StepOutcome.TheVariants as outcome
use Rattle.byz_world.specs.declared.step.StepReply.{StepReply}
use Rattle.byz_world.specs.declared.step.StepReply.TheVariants as told
use Rattle.byz_world.specs.declared.faults.WorldFault.{WorldFault}

-- a node for each name, none for a liar's
abbrev pub Members : Type 0
Members = List (Option NodeValue)

abbrev pub member_in : Members → ℕ → Option NodeValue
member_in members name = option_and_then (λ member. member) (slice_get members name)

abbrev pub history_in : Option NodeValue → List Event
history_in None = []
history_in (Some node) = node.history

-- the node's next event, where these names came before
abbrev pub next_event : (ℕ → List Event) → List ℕ → ℕ → Option (ℕ × Event)
next_event histories past name =
    option_map (λ e. (name, e)) (slice_get (histories name) (count_by (λ n. n == name) past))

-- beside each name of the order that node's event of its own number
unfoldable pub run_after : (ℕ → List Event) → List ℕ → List ℕ → Run
run_after histories past [] = []
run_after histories past (name ∷ order) =
    listed (next_event histories past name) ++ run_after histories (past ++ name ∷ []) order

abbrev pub run_in : Members → List ℕ → Run
run_in members order = run_after (λ name. history_in (member_in members name)) [] order

abbrev pub world_in : ConfigValue → Nodes → Members → List ℕ → WorldValue
world_in config liars members order = record { config = config; liars = liars; run = run_in members order }

-- Each correct node has its history in the run, the order names it once for each event, and the messages are those that
-- were sent.
pub record IsWorldIn (config : ConfigValue) (liars : Nodes) (members : Members) (order : List ℕ)
    (sent : List Sent) : Type 0 where
  pub cluster : IsClusterRun config liars (run_in members order)
  pub one_each : length members ≡ config.roles.sizes.nodes
  pub nodes : (name : ℕ) → member_in members name ≡ node_due (world_in config liars members order) name
  pub named : (name : ℕ) → count_by (λ n. n == name) order ≡ length (history_in (member_in members name))
  pub messages : sent ≡ messages config (run_in members order)
  pub within : length (pool config (run_in members order)) ≤ config.limit
  pub limit : config.limit ≤ most_events

-- what an event needs of a run to be its next
pub record MayFollow (config : ConfigValue) (liars : Nodes) (run : Run) (at : ℕ) (e : Event) : Type 0 where
  pub correct : IsCorrect config liars at
  pub sound : (p : PacketValue) → e ≡ Take p → IsSound p
  pub links : (p : PacketValue) → e ≡ Take p → IsCorrect config liars p.from →
      IsTrue (has_sent config.roles.sizes run p.from (message_of p))

abbrev pub is_act : Event → Bool
is_act (Issue command) = false
is_act (Take p) = false
is_act (Client act) = true

-- .. and of the pool, unless a client acts: room for one more message to all nodes
pub record MayHappen (w : WorldValue) (at : ℕ) (e : Event) : Type 0 where
  pub follows : MayFollow w.config w.liars w.run at e
  pub room : is_act e ≡ false → is_pool_full w ≡ false

-- the step comes to such an event, if to any
abbrev pub MayArrive : WorldValue → Arrival → Type 0
MayArrive w (Ok (Some pair)) = MayHappen w pair.0 pair.1
MayArrive w (Ok None) = ⊤
MayArrive w (Err fault) = ⊤

abbrev pub is_idle : Result Effect NodeFault → Bool
is_idle (Ok Idle) = true
is_idle (Ok Counted) = false
is_idle (Err fault) = false

-- the node has taken this packet: it is idle there
abbrev pub has_taken_packet : NodeValue → Option PacketValue → Bool
has_taken_packet node None = false
has_taken_packet node (Some p) = is_idle (outlook node.config node.me node.history (Take p))

abbrev pub has_taken : NodeValue → Sent → Bool
has_taken node sent = has_taken_packet node (packet_due sent.0 node.me sent.1)

-- it has taken each of these; a liar need not
abbrev pub has_taken_all : List Sent → Option NodeValue → Bool
has_taken_all sent None = true
has_taken_all sent (Some node) = list_all (has_taken node) sent

-- the answer by what came of a step, where the pool had so many packets before it
abbrev pub replied_by : ℕ → ℕ → Reply → StepReply
replied_by first nodes r = told.Node r first (if is_some (sent_by r) then nodes else 0)

abbrev pub outcome_reply : ℕ → ℕ → StepOutcome → StepReply
outcome_reply first nodes outcome.Absorbed = told.Absorbed
outcome_reply first nodes outcome.Idle = replied_by first nodes reply.Idle
outcome_reply first nodes (outcome.Recorded entry) = replied_by first nodes entry.reply

-- .. in a world, with the refusals
abbrev pub result_reply : WorldValue → Result StepOutcome WorldFault → Result StepReply WorldFault
result_reply w (Ok c) = Ok (outcome_reply (length (pool w.config w.run)) w.config.roles.sizes.nodes c)
result_reply w (Err f) = Err f
