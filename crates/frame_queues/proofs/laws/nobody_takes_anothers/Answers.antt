use Rattle.frame_queues.proofs.MomentLemmas.{nobody_takes_anothers}
use Rattle.frame_queues.proofs.laws.nobody_takes_anothers.Goals as goal

pub returns : goal.returns
returns c = nobody_takes_anothers
