-- What contracts see of a node: what it was told at its start, its own name, and its history.
use Rattle.std.specs.Prelude.{ℕ, List, [], ◌∷◌, ◌++◌, refl}
use Rattle.std.specs.Coded.{Coded, code_by, coded×, coded_list, coded_ℕ}
use Rattle.role_node.specs.Configs.{ConfigValue, config_code}
use Rattle.role_node.specs.Answers.{EntryValue, answer_due, IsLegal, AreReplies}
use Rattle.role_node.specs.contracts.event.Event as contract
use Rattle.role_node.specs.declared.event.Event.{Event}
use Rattle.role_node.specs.declared.event.Reply.{Reply}
use Rattle.role_node.specs.declared.event.Reply.TheVariants as reply
use Rattle.role_node.specs.declared.faults.NodeFault.{NodeFault}
use Rattle.std.specs.Prelude.{Result}

pub record NodeValue : Type 0 where
  pub config : ConfigValue
  pub me : ℕ
  pub history : List Event

abbrev pub event_code : Coded Event
event_code = contract.the_row.coded

-- a node is stored as its parts
abbrev pub node_code : Coded NodeValue
node_code =
    code_by (ConfigValue × (ℕ × List Event)) (coded× config_code (coded× coded_ℕ (coded_list event_code)))
    (λ n. (n.config, (n.me, n.history)))
    (λ p. record { config = p.0; me = p.1.0; history = p.1.1 }) (λ _. refl)

-- a node of this configuration and name that has recorded nothing
abbrev pub new_node : ConfigValue → ℕ → NodeValue
new_node config me = record { config = config; me = me; history = [] }

-- the answer that is due to the event
abbrev pub due_at : NodeValue → Event → Result Reply NodeFault
due_at node event = answer_due node.config node.me node.history event

-- the node with one event more in its history
abbrev pub with_event : NodeValue → Event → NodeValue
with_event node event = record node { history = node.history ++ event ∷ [] }

-- the node after it gave this reply to the event: what is idle is not recorded
abbrev pub after_reply : NodeValue → Event → Reply → NodeValue
after_reply node event reply.Idle = node
after_reply node event r = with_event node event

abbrev pub IsLegalNode : NodeValue → Type 0
IsLegalNode node = IsLegal node.config node.me node.history

abbrev pub AreRepliesOf : NodeValue → List EntryValue → Type 0
AreRepliesOf node entries = AreReplies node.config node.me node.history entries
