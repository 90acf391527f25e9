use Rattle.restarts.specs.Lives.{moment}
use Rattle.restarts.proofs.laws.law_restarts_keep_the_promise.Goals as goal

pub returns : goal.returns
returns c config liars acts k life =
    c.law_headline.ensures config liars (moment acts k).run (c.law_restarts_are_runs.ensures config liars acts k life)
