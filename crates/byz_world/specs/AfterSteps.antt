-- The promise for the run of any list of steps.
use Rattle.std.specs.Prelude.{◌≡◌, false, List, All}
use Rattle.quorum_sizes.specs.Sizes.{AreSizes}
use Rattle.quorum_sizes.specs.NodeSets.{Nodes}
use Rattle.role_node.specs.Configs.{ConfigValue}
use Rattle.byz_world.specs.Headline.{KeepsThePromise}
use Rattle.byz_world.specs.Runs.{Run, IsClusterRun}
use Rattle.byz_world.specs.Steps.{after_steps, IsSoundStep}
use Rattle.byz_world.specs.Worlds.{new_world, too_many_lie}
use Rattle.byz_world.specs.declared.step.Step.{Step}

-- the run is one of a cluster, and keeps the promise
pub record IsPromised (config : ConfigValue) (liars : Nodes) (run : Run) : Type 0 where
  pub is_run : IsClusterRun config liars run
  pub keeps : KeepsThePromise config liars run

-- For every configuration and set of liars, of whom no more are nodes than may lie, and for every list of steps:
-- deliveries, losses, repeats, forgeries, any bytes and client calls. A packet that a step brings is one (a SEND comes
-- from its owner, and the place is one of a stream); of bytes nothing is asked.
abbrev pub HeadlineOfSteps : Type 0
HeadlineOfSteps =
    (config : ConfigValue) (liars : Nodes) (steps : List Step) → AreSizes config.roles.sizes →
    too_many_lie config.roles.sizes liars ≡ false → All IsSoundStep steps →
    IsPromised config liars (after_steps (new_world config liars) steps).run
