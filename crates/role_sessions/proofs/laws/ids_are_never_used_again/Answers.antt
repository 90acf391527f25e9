use Rattle.role_sessions.proofs.StateLemmas.{get-state_of}
use Rattle.role_sessions.proofs.IdLaws.{state_counts_the_opened, ids_are_given_in_order, closed_stay_closed}
use Rattle.role_sessions.proofs.laws.ids_are_never_used_again.Goals as goal

pub returns-clause-state : goal.returns-clause-state
returns-clause-state c = get-state_of

pub returns-clause-count : goal.returns-clause-count
returns-clause-count c = state_counts_the_opened

pub returns-clause-order : goal.returns-clause-order
returns-clause-order c = ids_are_given_in_order

pub returns-clause-closed : goal.returns-clause-closed
returns-clause-closed c = closed_stay_closed
