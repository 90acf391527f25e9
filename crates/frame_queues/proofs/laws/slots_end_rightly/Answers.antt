use Rattle.frame_queues.proofs.EndingLemmas.{slots_end_rightly}
use Rattle.frame_queues.proofs.laws.slots_end_rightly.Goals as goal

pub returns : goal.returns
returns c = slots_end_rightly
