use Rattle.frame_queues.proofs.UnsentLemmas.{goes_on}
use Rattle.frame_queues.proofs.laws.unsent_goes_on.Goals as goal

pub returns : goal.returns
returns c = goes_on
