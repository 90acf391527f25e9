use Rattle.restarts.proofs.Example.{is_example}
use Rattle.restarts.proofs.laws.an_example.Goals as goal

pub returns : goal.returns
returns c = is_example c.an_example.ensures.is_run
