use Rattle.std.proofs.Common.{sym, ◌∙◌, true≢false}
use Rattle.client_lines.proofs.JsonLemmas.{json_of-some, json_of-none}
use Rattle.client_lines.proofs.json_value.read_json.Goals as goal

pub returns-in-Ok-clause-value : goal.returns-in-Ok-clause-value
returns-in-Ok-clause-value c = sym (json_of-some _ _ c.in-Ok.ensures.ok.0 c.in-Ok.ensures.ok.1)

pub returns-else-is_memory-clause-value : goal.returns-else-is_memory-clause-value
returns-else-is_memory-clause-value c =
    sym (json_of-none _ (c.in-Err.ensures.err (λ memory. true≢false (sym (c.is_memory.ensures.1 memory)
    ∙ c.if-is_memory.false))))
