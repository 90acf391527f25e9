use Rattle.operator_lines.proofs.LawLemmas as lemmas
use Rattle.operator_lines.proofs.laws.clients_know_none.Goals as goal

pub returns : goal.returns
returns c = lemmas.clients_know_none
