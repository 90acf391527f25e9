use Rattle.std.proofs.Common.{◌∙◌, inl, sym, ap}
use Rattle.serde_json.specs.Read.{read}
use Rattle.client_lines.proofs.JsonLemmas.{json_of-none, due-none, due-object}
use Rattle.client_lines.proofs.request.RequestReader.read.Goals as goal

pub returns-in_default-clause-due : goal.returns-in_default-clause-due
returns-in_default-clause-due c =
    inl (due-none _ _ (json_of-none _ (λ text. absurd (c.in_default.ensures.cases.0 text))))

pub returns-in-Some-clause-due : goal.returns-in-Some-clause-due
returns-in-Some-clause-due c =
    let said = c.in-Some.ensures in
    let same = c.in-Ok.ensures.cases in
    inl (c.request_of_line.ensures.value _ said.2
    ∙ due-object _ _ said.0 c.if-bytes-gt-MOST_LINE_BYTES.false same.1 (ap read (sym same.0) ∙ said.1))
