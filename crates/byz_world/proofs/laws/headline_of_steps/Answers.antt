use Rattle.byz_world.proofs.Headline.{headline_of_steps}
use Rattle.byz_world.proofs.laws.headline_of_steps.Goals as goal

pub returns : goal.returns
returns c = headline_of_steps
