-- What is told of a node.
use Rattle.std.specs.Prelude.{ℕ, List, length, map, Option, option_map}
use Rattle.std.specs.List.{range_with_len}
use Rattle.std.specs.FinMap as finite
use Rattle.role_sessions.specs.Listed.{listed_from}
use Rattle.owner_shares.specs.Shares.{SharesValue, share_in}
use Rattle.role_node.specs.Nodes.{NodeValue}
use Rattle.role_node.specs.Begun.{is_begun_twice}
use Rattle.role_node.specs.Histories.{issued, client_events}
use Rattle.role_node.specs.Access.{reach_at, sessions_at}
use Rattle.operator_lines.specs.declared.standing.NodeStanding.{NodeStanding}

-- so many sessions are listed at once
abbrev pub most_sessions : ℕ
most_sessions = 100

-- how far the stream of each node of the sizes reaches, by its index
abbrev pub reaches_at : NodeValue → List ℕ
reaches_at node =
    map (reach_at node.config.roles.sizes node.history) (range_with_len 0 node.config.roles.sizes.nodes)

-- how many places each node of the sizes has, by its index
abbrev pub places_in : NodeValue → SharesValue → List ℕ
places_in node shares = map (share_in shares) (range_with_len 0 node.config.roles.sizes.nodes)

-- how a node stands, and what these shares leave each, where a server asks any
abbrev pub standing_at : Option SharesValue → NodeValue → NodeStanding
standing_at shares node =
    record {
      acts = length (client_events node.history);
      at = length node.history;
      begun_twice = is_begun_twice node.config.roles.sizes node.me node.history;
      liars = node.config.roles.sizes.liars;
      limit = node.config.limit;
      published = length (issued node.history);
      sessions = finite.len (sessions_at node.history).open_sessions;
      reaches = reaches_at node;
      shares = option_map (places_in node) shares;
    }

-- the open sessions from an id on, each with its user
abbrev pub sessions_from : NodeValue → ℕ → List (ℕ × ℕ)
sessions_from node from = listed_from (sessions_at node.history).open_sessions from most_sessions
