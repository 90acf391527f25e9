use Rattle.byz_world.proofs.GoesOn.{each_owner_goes_on}
use Rattle.byz_world.proofs.Schedules.{giving_comes_to_rest}
use Rattle.byz_world.proofs.Wanted.{wanted_is_recorded}
use Rattle.byz_world.proofs.laws.law_fair_schedules_settle.Goals as goal

pub returns-clause-goes_on : goal.returns-clause-goes_on
returns-clause-goes_on c = each_owner_goes_on

pub returns-clause-recorded : goal.returns-clause-recorded
returns-clause-recorded c = wanted_is_recorded

pub returns-clause-given : goal.returns-clause-given
returns-clause-given c = giving_comes_to_rest
