-- What holds of a node's fields. Serves the code, and no public contract.
use Rattle.std.specs.Prelude.{◌<◌, ◌≤◌, length}
use Rattle.role_node.specs.Configs.{most_events}
use Rattle.role_node.specs.Nodes.{NodeValue}
use Rattle.role_node.specs.inside.Kept.{IsStateAfter, AreEntries, events}
use Rattle.role_node.specs.inside.Noting.{IsNotedOf}
use Rattle.role_node.specs.declared.node.Node.TheInside.{Inside}

abbrev pub node_value : Inside → NodeValue
node_value a = record { config = a.config; me = a.me; history = events a.entries.items }

-- the node's name is a node's, its history is not too long, its replies were due, and its state
-- and what it noted follow from it
pub record IsNode (a : Inside) : Type 0 where
  pub me : a.me < a.config.roles.sizes.nodes
  pub limit : a.config.limit ≤ most_events
  pub within : length a.entries.items ≤ a.config.limit
  pub entries : AreEntries a.config a.me a.entries.items
  pub state : IsStateAfter a.config.roles (events a.entries.items) a.state
  pub noted : IsNotedOf a.config.roles.sizes a.me (events a.entries.items) a.noted
