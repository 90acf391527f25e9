-- The packets that the correct nodes of a run have sent, in the order of the run.
use Rattle.std.specs.Prelude.{ℕ, ◌<◌, IsTrue, List, [], ◌∷◌, ◌++◌, map, Option, Some, None, option_map}
use Rattle.std.specs.List.{range_with_len, flat_map}
use Rattle.link_frames.specs.declared.frames.packet.Message.{Message}
use Rattle.quorum_sizes.specs.NodeSets.{Nodes}
use Rattle.link_frames.specs.frames.Packets.{PacketValue, packet_of, message_of}
use Rattle.role_node.specs.Configs.{ConfigValue}
use Rattle.role_node.specs.Answers.{answer_due, sent_by_answer}
use Rattle.role_node.specs.declared.event.Event.{Event}
use Rattle.byz_world.specs.Runs.{Run, history_of, IsCorrect, has_sent}

-- a message and the node that sends it to all
abbrev pub Sent : Type 0
Sent = ℕ × Message

-- what the node sends when this event is the next of the run: by the answer that is due to it
abbrev pub sends_next : ConfigValue → Run → ℕ × Event → Option Sent
sends_next config past pair =
    option_map (λ message. (pair.0, message))
    (sent_by_answer (answer_due config pair.0 (history_of pair.0 past) pair.1))

abbrev pub listed : {A : Type 0} → Option A → List A
listed None = []
listed (Some x) = x ∷ []

unfoldable pub messages_after : ConfigValue → Run → Run → List Sent
messages_after config past [] = []
messages_after config past (pair ∷ run) =
    listed (sends_next config past pair) ++ messages_after config (past ++ pair ∷ []) run

-- the messages that were sent
abbrev pub messages : ConfigValue → Run → List Sent
messages config run = messages_after config [] run

-- a packet to each node, in the order of their names
abbrev pub packets_of : ℕ → Sent → List PacketValue
packets_of nodes sent = map (λ to. packet_of sent.0 to sent.1) (range_with_len 0 nodes)

-- the packets that were sent; each has its number here
unfoldable pub pool : ConfigValue → Run → List PacketValue
pool config run = flat_map (packets_of config.roles.sizes.nodes) (messages config run)

-- the packet is to a node, and of a message that a correct node has sent, by its history
pub record WasSent (config : ConfigValue) (liars : Nodes) (run : Run) (p : PacketValue) : Type 0 where
  pub from : IsCorrect config liars p.from
  pub to : p.to < config.roles.sizes.nodes
  pub sent : IsTrue (has_sent config.roles.sizes run p.from (message_of p))
