use Rattle.byz_world.proofs.Headline.{headline}
use Rattle.byz_world.proofs.laws.law_headline.Goals as goal

pub returns : goal.returns
returns c = headline
