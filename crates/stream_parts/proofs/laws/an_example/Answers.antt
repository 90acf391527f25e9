use Rattle.stream_parts.proofs.Example.{is_example}
use Rattle.stream_parts.proofs.laws.an_example.Goals as goal

pub returns : goal.returns
returns c = is_example c.an_example.ensures
