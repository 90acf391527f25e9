use Rattle.byz_world.proofs.Deciding as lemma
use Rattle.byz_world.proofs.laws.same_reach_decides_alike.Goals as goal

pub returns-clause-alike : goal.returns-clause-alike
returns-clause-alike c = lemma.same_reach_decides_alike c.one_owners_word.ensures

pub returns-clause-whenever : goal.returns-clause-whenever
returns-clause-whenever c = lemma.same_reach_whenever_asked c.one_owners_word.ensures
