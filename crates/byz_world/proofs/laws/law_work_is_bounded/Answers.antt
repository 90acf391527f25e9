use Rattle.byz_world.proofs.LongHistories.{history_is_bounded}
use Rattle.byz_world.proofs.Prolonging.{work_is_bounded}
use Rattle.byz_world.proofs.laws.law_work_is_bounded.Goals as goal

pub returns-clause-work : goal.returns-clause-work
returns-clause-work c = work_is_bounded

pub returns-clause-history : goal.returns-clause-history
returns-clause-history c = history_is_bounded
