use Rattle.peer_windows.proofs.Reading.{begins_more}
use Rattle.peer_windows.proofs.sent.push_tail_at.Goals as goal

pub returns-in_err-push_again-clause-begin : goal.returns-in_err-push_again-clause-begin
returns-in_err-push_again-clause-begin g c =
    begins_more _ _ _ _ c.in_ok-push_last_ready.ensures.ok c.push_again.ensures.begin
