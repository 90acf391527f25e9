use Rattle.role_node.proofs.WorkLemmas as lemma
use Rattle.role_node.proofs.laws.few_at_place.Goals as goal

pub returns : goal.returns
returns c = lemma.few_at_place
