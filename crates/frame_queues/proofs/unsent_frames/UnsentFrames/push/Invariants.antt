use Rattle.std.proofs.Common.{◌≡◌, ◌+◌, ◌≤◌, ◌++◌, take, deque_len}
use Rattle.std.specs.VecDeque.{deque_capacity}
use Rattle.frame_queues.proofs.unsent_frames.UnsentFrames.push.Given as goal

abbrev pub invariant-loop-frame : goal.invariant-loop-frame
invariant-loop-frame l =
    record {
      put : l.self-inside.frames.items ≡ l.initial.self-inside.frames.items ++ take l.frame-index l.frame-items;
      same : l.self-inside.written ≡ l.initial.self-inside.written;
      room : deque_len l.initial.self-inside.frames + l.frame-index-end ≤ deque_capacity l.self-inside.frames;
    }
