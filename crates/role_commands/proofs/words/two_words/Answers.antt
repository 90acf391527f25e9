use Rattle.std.proofs.Common.{rules, append_assoc}
use Rattle.role_commands.proofs.words.two_words.Goals as goal

pub returns : goal.returns
returns c = search (rules, append_assoc)
