use Rattle.role_node.proofs.WordLemmas.{one_owners_word}
use Rattle.role_node.proofs.laws.one_owners_word.Goals as goal

pub returns : goal.returns
returns c = one_owners_word
