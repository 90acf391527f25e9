use Rattle.byz_world.proofs.Healing.{complete_or_lacked}
use Rattle.byz_world.proofs.Windows.{windows_suffice}
use Rattle.byz_world.proofs.laws.law_windows_suffice.Goals as goal

pub returns-clause-suffice : goal.returns-clause-suffice
returns-clause-suffice c = windows_suffice

pub returns-clause-or_lacked : goal.returns-clause-or_lacked
returns-clause-or_lacked c = complete_or_lacked
