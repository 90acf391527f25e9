use Rattle.std.proofs.Common.{rules, append_assoc}
use Rattle.client_lines.proofs.answer.deny_text.Goals as goal

pub returns : goal.returns
returns c = search (rules, append_assoc)
