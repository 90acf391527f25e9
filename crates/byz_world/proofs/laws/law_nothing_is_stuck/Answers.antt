use Rattle.byz_world.proofs.GivenOut.{given_out_is_at_rest}
use Rattle.byz_world.proofs.Quiet.{quiet_is_complete}
use Rattle.byz_world.proofs.laws.law_nothing_is_stuck.Goals as goal

pub returns-clause-quiet : goal.returns-clause-quiet
returns-clause-quiet c = quiet_is_complete

pub returns-clause-given_out : goal.returns-clause-given_out
returns-clause-given_out c = given_out_is_at_rest
