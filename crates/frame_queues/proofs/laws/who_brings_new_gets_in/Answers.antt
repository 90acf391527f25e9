use Rattle.frame_queues.proofs.LeastLemmas.{who_brings_new_gets_in}
use Rattle.frame_queues.proofs.laws.who_brings_new_gets_in.Goals as goal

pub returns : goal.returns
returns c = who_brings_new_gets_in
