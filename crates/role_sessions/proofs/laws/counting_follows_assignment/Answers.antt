use Rattle.role_sessions.proofs.DecisionLaws.{counted_are_assigned, deassigned_counts_no_more, reassigned_counts_again}
use Rattle.role_sessions.proofs.laws.counting_follows_assignment.Goals as goal

pub returns-clause-counted : goal.returns-clause-counted
returns-clause-counted c = counted_are_assigned

pub returns-clause-deassigned : goal.returns-clause-deassigned
returns-clause-deassigned c = deassigned_counts_no_more

pub returns-clause-reassigned : goal.returns-clause-reassigned
returns-clause-reassigned c = reassigned_counts_again
