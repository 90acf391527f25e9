use Rattle.stream_restarts.proofs.Projecting.{nobody_is_told_two_stories}
use Rattle.stream_restarts.proofs.laws.nobody_is_told_two_stories.Goals as goal

pub returns : goal.returns
returns c = nobody_is_told_two_stories c.law_nobody_is_told_two_stories.ensures
