-- What contracts see of a world: the configuration of its nodes, who lies, and its run.
use Rattle.std.specs.Prelude.{ℕ, [], nat_lt, Bool, if◌then◌else◌, Option, Some, None, refl}
use Rattle.std.specs.Coded.{Coded, code_by, coded×, coded_list, coded_ℕ}
use Rattle.std.specs.FinSet as sets
use Rattle.quorum_sizes.specs.Sizes.{Counts}
use Rattle.quorum_sizes.specs.NodeSets.{Nodes, nodes_among}
use Rattle.role_node.specs.Configs.{ConfigValue, config_code}
use Rattle.role_node.specs.Nodes.{NodeValue, event_code}
use Rattle.byz_world.specs.Runs.{Run, history_of, is_correct, IsClusterRun}

pub record WorldValue : Type 0 where
  pub config : ConfigValue
  pub liars : Nodes
  pub run : Run

-- it is stored as its parts
abbrev pub world_code : Coded WorldValue
world_code =
    code_by (ConfigValue × (Nodes × Run))
    (coded× config_code (coded× (sets.code coded_ℕ) (coded_list (coded× coded_ℕ event_code))))
    (λ w. (w.config, (w.liars, w.run)))
    (λ p. record { config = p.0; liars = p.1.0; run = p.1.1 }) (λ _. refl)

-- more nodes lie than may
abbrev pub too_many_lie : Counts → Nodes → Bool
too_many_lie s liars = nat_lt s.liars (sets.len (nodes_among s liars))

-- a world in which nothing has happened
abbrev pub new_world : ConfigValue → Nodes → WorldValue
new_world config liars = record { config = config; liars = liars; run = [] }

abbrev pub sizes_of : WorldValue → Counts
sizes_of w = w.config.roles.sizes

abbrev pub is_correct_in : WorldValue → ℕ → Bool
is_correct_in w node = is_correct w.config.roles.sizes w.liars node

-- a correct node of the world
abbrev pub node_in : WorldValue → ℕ → NodeValue
node_in w node = record { config = w.config; me = node; history = history_of node w.run }

abbrev pub node_due : WorldValue → ℕ → Option NodeValue
node_due w node = if is_correct_in w node then Some (node_in w node) else None

-- the run of a world is a cluster run
abbrev pub IsClusterRunOf : WorldValue → Type 0
IsClusterRunOf w = IsClusterRun w.config w.liars w.run
