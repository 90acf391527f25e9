use Rattle.restarts.specs.Lives.{moment}
use Rattle.restarts.proofs.laws.law_begun_once.Goals as goal

pub returns : goal.returns
returns c config liars acts k node life correct =
    c.law_begun_once.ensures config liars (moment acts k).run node
    (c.law_restarts_are_runs.ensures config liars acts k life) correct
