use Rattle.stream_restarts.proofs.Example.{is_example}
use Rattle.stream_restarts.proofs.laws.an_example.Goals as goal

pub returns : goal.returns
returns c = is_example c.an_example.ensures.is_run c.an_example.ensures.delivered_at_zero
