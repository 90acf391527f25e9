use Rattle.role_commands.proofs.SameLemmas.{same_command-self, same_command_is}
use Rattle.role_commands.proofs.laws.sameness.Goals as goal

pub returns-clause-itself : goal.returns-clause-itself
returns-clause-itself c = same_command-self

pub returns-clause-one : goal.returns-clause-one
returns-clause-one c = same_command_is
