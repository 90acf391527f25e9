use Rattle.line_pipe.proofs.OwnLemmas.{nothing_taken, one_taken, all_taken, less_owed}
use Rattle.line_pipe.proofs.pipe.requests.take_own_packets.Goals as goal

pub loop-waiting-init : goal.loop-waiting-init
loop-waiting-init c = nothing_taken _ _

pub loop-waiting-preserved : goal.loop-waiting-preserved
loop-waiting-preserved c =
    let so = rw c.in-Some.is at c.loop-waiting.invariant in
    one_taken _ _ _ _ _ c.in-Some.message so c.in_ok-waiting.ensures.sent c.in_ok-waiting.ensures.after

pub loop-waiting-smaller : goal.loop-waiting-smaller
loop-waiting-smaller c =
    less_owed _ _ _ _ c.in-Some.message c.in-Some.is c.in_ok-waiting.ensures.sent c.in_ok-waiting.ensures.after

pub returns : goal.returns
returns c = all_taken _ _ _ (rw c.in_default.is at c.loop-waiting.invariant)
