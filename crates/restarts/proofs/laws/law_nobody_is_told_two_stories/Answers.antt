use Rattle.restarts.proofs.Lives.{nobody_is_told_two_stories}
use Rattle.restarts.proofs.laws.law_nobody_is_told_two_stories.Goals as goal

pub returns : goal.returns
returns c = nobody_is_told_two_stories
