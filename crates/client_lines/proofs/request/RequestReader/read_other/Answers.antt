use Rattle.std.proofs.Common.{◌∙◌, inl}
use Rattle.client_lines.proofs.JsonLemmas.{asks-object}
use Rattle.client_lines.proofs.request.RequestReader.read_other.Goals as goal

pub returns-in-Some-clause-due : goal.returns-in-Some-clause-due
returns-in-Some-clause-due c =
    let said = rw c.in-Some.is at c.in_ok-line.ensures in
    inl (c.request_of_line.ensures.value _ said.2 ∙ asks-object _ _ said.0 c.utf8.text said.1)
