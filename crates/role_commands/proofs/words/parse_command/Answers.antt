use Rattle.std.proofs.Common.{rules}
use Rattle.role_commands.specs.Reading.{command_of}
use Rattle.role_commands.proofs.WordLemmas.{found_spelled, only_spelled}
use Rattle.role_commands.proofs.words.parse_command.Goals as goal

pub returns-in_err-name-clause-value : goal.returns-in_err-name-clause-value
unfolding command_of
returns-in_err-name-clause-value c = search rules

pub returns-in_err-name-clause-only : goal.returns-in_err-name-clause-only
returns-in_err-name-clause-only c = only_spelled _ _ (returns-in_err-name-clause-value c)

pub returns-clause-value : goal.returns-clause-value
unfolding command_of
returns-clause-value c = search rules

pub returns-clause-found : goal.returns-clause-found
returns-clause-found c = found_spelled _ _ (returns-clause-value c)

pub returns-clause-only : goal.returns-clause-only
returns-clause-only c = only_spelled _ _ (returns-clause-value c)
