use Rattle.restarts.proofs.Ahead as lemma
use Rattle.restarts.proofs.laws.nothing_left_is_ahead.Goals as goal

pub returns-clause-left : goal.returns-clause-left
returns-clause-left c = lemma.nothing_left_is_ahead c.law_restarts_are_runs.ensures c.nobody_votes_ahead.ensures.sent

pub returns-clause-few : goal.returns-clause-few
returns-clause-few c =
    lemma.few_vote_ahead
    (lemma.nothing_left_is_ahead c.law_restarts_are_runs.ensures c.nobody_votes_ahead.ensures.sent)
