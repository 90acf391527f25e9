use Rattle.role_node.proofs.BegunLemmas as lemma
use Rattle.role_node.proofs.laws.begun_twice_is_seen.Goals as goal

pub returns : goal.returns
returns c = lemma.begun_twice_is_seen
