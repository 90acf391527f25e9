-- Runs of nodes that were told different limits.
use Rattle.std.specs.Prelude.{◌≡◌, ℕ, ◌≤◌, slice_get, Some}
use Rattle.std.specs.FinSet as sets
use Rattle.quorum_sizes.specs.Sizes.{AreSizes}
use Rattle.quorum_sizes.specs.NodeSets.{Nodes, nodes_among}
use Rattle.role_node.specs.Configs.{ConfigValue}
use Rattle.role_node.specs.Answers.{IsLegal}
use Rattle.role_node.specs.declared.event.Event.{Event}
use Rattle.byz_world.specs.Runs.{Run, history_of, IsCorrect, PacketsAreSound, LinksAreTrue, IsClusterRun}

-- the configuration with another limit
abbrev pub with_limit : ConfigValue → ℕ → ConfigValue
with_limit config limit = record { cluster = config.cluster; roles = config.roles; limit = limit }

-- All of a cluster run, but that each correct node answers as is due under its own limit.
pub record IsRunUnderLimits (config : ConfigValue) (limits : ℕ → ℕ) (liars : Nodes) (run : Run) : Type 0 where
  pub sizes : AreSizes config.roles.sizes
  pub few : sets.len (nodes_among config.roles.sizes liars) ≤ config.roles.sizes.liars
  pub correct : (t node : ℕ) (event : Event) → slice_get run t ≡ Some (node, event) →
      IsCorrect config liars node
  pub legal : (node : ℕ) → IsLegal (with_limit config (limits node)) node (history_of node run)
  pub sound : PacketsAreSound run
  pub links : LinksAreTrue config.roles.sizes liars run

-- Under any limit that none of theirs is above, it is a cluster run, of which all laws speak.
abbrev pub LimitsMayDiffer : Type 0
LimitsMayDiffer =
    (config : ConfigValue) (liars : Nodes) (run : Run) (limits : ℕ → ℕ) (most : ℕ) →
    ((node : ℕ) → limits node ≤ most) → IsRunUnderLimits config limits liars run →
    IsClusterRun (with_limit config most) liars run
