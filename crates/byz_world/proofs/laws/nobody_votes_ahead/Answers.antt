use Rattle.byz_world.proofs.Begun as lemma
use Rattle.byz_world.proofs.laws.nobody_votes_ahead.Goals as goal

pub returns-clause-sent : goal.returns-clause-sent
returns-clause-sent c = lemma.nobody_votes_ahead

pub returns-clause-few : goal.returns-clause-few
returns-clause-few c = lemma.few_vote_ahead
