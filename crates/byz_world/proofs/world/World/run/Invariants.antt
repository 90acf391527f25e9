use Rattle.std.proofs.Common.{◌≡◌, take, List}
use Rattle.byz_world.specs.Worlds.{IsClusterRunOf}
use Rattle.byz_world.specs.Steps.{after_steps}
use Rattle.byz_world.specs.Worlds.{new_world, WorldValue}
use Rattle.byz_world.specs.declared.step.Step.{Step}
use Rattle.byz_world.proofs.world.World.run.Given as goal

pub record HasRun (world start : WorldValue) (done : List Step) : Type 0 where
  pub after : world ≡ after_steps start done
  pub cluster : IsClusterRunOf world

abbrev pub invariant-loop-step : goal.invariant-loop-step
invariant-loop-step l = HasRun l.world (new_world l.fn.config l.fn.liars) (take l.step-index l.steps)
