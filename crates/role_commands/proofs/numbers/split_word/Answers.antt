use Rattle.role_commands.proofs.SplitWordLemmas.{split_word_is}
use Rattle.role_commands.proofs.numbers.split_word.Goals as goal

pub returns : goal.returns
returns c = split_word_is c.args.text.now _ c.split_once.ensures.cases
