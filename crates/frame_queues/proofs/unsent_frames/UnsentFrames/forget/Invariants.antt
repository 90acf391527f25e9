use Rattle.std.proofs.Common.{◌≡◌, drop}
use Rattle.frame_queues.proofs.unsent_frames.UnsentFrames.forget.Given as goal

abbrev pub invariant-loop : goal.invariant-loop
invariant-loop l = l.self-inside.frames.items ≡ drop l.counter l.initial.self-inside.frames.items
