use Rattle.byz_world.proofs.ExampleRests.{an_example}
use Rattle.byz_world.proofs.laws.an_example.Goals as goal

pub returns : goal.returns
returns c = an_example
