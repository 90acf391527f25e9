use Rattle.byz_world.proofs.Pooled.{pool_is_what_was_sent}
use Rattle.byz_world.proofs.laws.pool_is_what_was_sent.Goals as goal

pub returns : goal.returns
returns c = pool_is_what_was_sent
