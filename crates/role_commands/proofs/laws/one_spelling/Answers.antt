use Rattle.role_commands.proofs.WordLemmas.{command_of-spelling, command_of_spelled, spelling_injective}
use Rattle.role_commands.proofs.laws.one_spelling.Goals as goal

pub returns-clause-read : goal.returns-clause-read
returns-clause-read c = command_of-spelling

pub returns-clause-spelled : goal.returns-clause-spelled
returns-clause-spelled c = command_of_spelled

pub returns-clause-differ : goal.returns-clause-differ
returns-clause-differ c = spelling_injective
