use Rattle.role_commands.proofs.NumberLemmas.{number_of-decimal, number_of_spelled}
use Rattle.role_commands.proofs.laws.one_spelling_of_numbers.Goals as goal

pub returns-clause-read : goal.returns-clause-read
returns-clause-read c = number_of-decimal

pub returns-clause-spelled : goal.returns-clause-spelled
returns-clause-spelled c = number_of_spelled
