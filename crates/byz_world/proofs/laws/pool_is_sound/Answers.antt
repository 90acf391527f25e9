use Rattle.byz_world.proofs.Sound.{pooled_is_sound}
use Rattle.byz_world.proofs.laws.pool_is_sound.Goals as goal

pub returns : goal.returns
returns c config liars run p cluster there = pooled_is_sound config liars run cluster p there
