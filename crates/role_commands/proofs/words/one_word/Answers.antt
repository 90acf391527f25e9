use Rattle.std.proofs.Common.{rules, append_assoc}
use Rattle.role_commands.proofs.words.one_word.Goals as goal

pub returns : goal.returns
returns c = search (rules, append_assoc)
