use Rattle.role_commands.proofs.ByteLemmas.{bytes_of_injective, length-bytes_of}
use Rattle.role_commands.proofs.laws.one_row.Goals as goal

pub returns-clause-differ : goal.returns-clause-differ
returns-clause-differ c = bytes_of_injective

pub returns-clause-nine : goal.returns-clause-nine
returns-clause-nine c = length-bytes_of
