use Rattle.std.specs.Prelude.{◌≡◌}
use Rattle.node_lock.proofs.report.replay.Given as goal

abbrev pub invariant-loop-entry : goal.invariant-loop-entry
invariant-loop-entry l = record { given : l.node.config ≡ l.fn.node.config; name : l.node.me ≡ l.fn.node.me }
