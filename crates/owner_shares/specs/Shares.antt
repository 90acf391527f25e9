-- How many places of each owner's stream are taken and published, and how many acts clients may do, so that nobody fills
-- what is another's.
use Rattle.std.specs.Prelude.{ℕ, ◌+◌, ◌*◌, ◌/◌, ◌-◌, ◌^◌, if◌then◌else◌, List, refl}
use Rattle.std.specs.Coded.{Coded, code_by, coded×, coded_ℕ}
use Rattle.std.specs.FinMap as map
use Rattle.std.specs.FinSet as sets
use Rattle.std.specs.List.{filter_map, range_with_len}
use Rattle.quorum_sizes.specs.NodeSets.{Nodes, nodes_among}
use Rattle.role_commands.specs.Tables.{Table}
use Rattle.role_sessions.specs.Refusals.{most_sessions}

-- the owners of the roles whose numbers are below this one
unfoldable pub owners_below : Table → ℕ → List ℕ
owners_below t roles = filter_map (map.get t.owners) (range_with_len 0 roles)

-- the nodes that own a role of the table; a role's number has 16 bits
abbrev pub owners_of : Table → Nodes
owners_of t = nodes_among t.sizes (sets.from_list (owners_below t (2 ^ 16)))

-- of the 4 * 2^20 events of a node, so many are for what owners publish: 3 * 2^20
abbrev pub published_events : ℕ
published_events = 3145728

-- .. and so many for its clients, 2^20: for what they do, and for a close of each session that is open
abbrev pub clients_events : ℕ
clients_events = 1048576

-- clients may do so many acts; closes of all sessions that can be open find room behind them
abbrev pub acts_share : ℕ
acts_share = clients_events - most_sessions

-- The places of each owner, where so many of the nodes own roles. A place of an owner's stream is 2n + 1 events at most:
-- the owner's SEND, and an ECHO and a READY of each node. At the owner itself it is one more, the command that it issued.
abbrev pub places_each : ℕ → ℕ → ℕ
places_each owners nodes = published_events / (owners * (2 * nodes + 1) + 1)

-- which nodes own roles, and how many places each of these has
pub record SharesValue : Type 0 where
  pub owners : Nodes
  pub each : ℕ

-- they are stored as their parts
abbrev pub shares_code : Coded SharesValue
shares_code =
    code_by (Nodes × ℕ) (coded× (sets.code coded_ℕ) coded_ℕ) (λ s. (s.owners, s.each))
    (λ p. record { owners = p.0; each = p.1 }) (λ _. refl)

-- the shares of a role table, which all correct nodes of a cluster have alike
abbrev pub shares_of : Table → SharesValue
shares_of t = record { owners = owners_of t; each = places_each (sets.len (owners_of t)) t.sizes.nodes }

-- a node's share of places: those of its stream below this number. A node that owns no role has none.
abbrev pub share_in : SharesValue → ℕ → ℕ
share_in s node = if sets.contains s.owners node then s.each else 0

abbrev pub share : Table → ℕ → ℕ
share t node = share_in (shares_of t) node
