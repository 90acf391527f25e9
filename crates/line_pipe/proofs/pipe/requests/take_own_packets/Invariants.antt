use Rattle.line_pipe.proofs.OwnLemmas.{TakenSoFar, owed}
use Rattle.line_pipe.proofs.pipe.requests.take_own_packets.Given as goal

abbrev pub invariant-loop-waiting : goal.invariant-loop-waiting
invariant-loop-waiting l = TakenSoFar l.initial.node l.node l.initial.waiting l.waiting

abbrev pub decreases-loop-waiting : goal.decreases-loop-waiting
decreases-loop-waiting l = owed 3 l.node l.waiting
