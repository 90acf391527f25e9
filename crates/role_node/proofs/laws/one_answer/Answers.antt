use Rattle.role_node.proofs.ListedLemmas.{one_answer}
use Rattle.role_node.proofs.laws.one_answer.Goals as goal

pub returns : goal.returns
returns c = one_answer
