use Rattle.std.specs.Prelude.{◌≡◌, ◌++◌, take}
use Rattle.served_node.specs.Sent.{frames_of}
use Rattle.served_node.proofs.owed.seal.Given as goal

abbrev pub invariant-loop-message : goal.invariant-loop-message
invariant-loop-message g l =
    l.frames.items
    ≡ l.initial.frames.items ++ frames_of (g.K.FrameKeys.sealed l.keys) l.to (take l.message-index l.messages)
