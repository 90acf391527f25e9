use Rattle.std.proofs.Common.{◌≡◌, ◌+◌, [], ◌∷◌, ◌++◌, take, ap, sym, ◌∙◌, arith}
use Rattle.std.proofs.lemmas.Grind.{common_steps}
use Rattle.byz_world.specs.Steps.{after_step, after_steps}
use Rattle.byz_world.specs.Worlds.{new_world}
use Rattle.byz_world.proofs.Stepping.{after_steps-push, after_steps-none}
use Rattle.byz_world.proofs.world.World.run.Goals as goal

pub loop-step-init : goal.loop-step-init
loop-step-init c = record {
  after = c.in_ok-world.ensures.ok ∙ sym (after_steps-none (new_world c.args.config c.args.liars));
  cluster = c.in_ok-world.ensures.run;
}

pub loop-step-preserved : goal.loop-step-preserved
loop-step-preserved c =
    let start = new_world c.args.config c.args.liars in
    let steps = c.args.steps.now in
    let index = c.loop-step.step-index in
    let more : take (index + 1) steps ≡ take index steps ++ c.step-item.result ∷ [] = grind (arith, common_steps) in
    record {
      after = c.in_ok-pass.ensures.after ∙ ap (λ w. after_step w c.step-item.result) c.loop-step.invariant.after
          ∙ sym (ap (after_steps start) more ∙ after_steps-push start (take index steps) c.step-item.result);
      cluster = c.in_ok-pass.ensures.run;
    }
