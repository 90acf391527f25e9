-- What holds of a node's own packets, whatever it recorded before.
use Rattle.std.specs.Prelude.{◌≡◌, ℕ, Option, None}
use Rattle.link_frames.specs.declared.frames.packet.Message.{Message}
use Rattle.role_node.specs.Nodes.{NodeValue}
use Rattle.line_pipe.specs.Answers.{take_own, settled}

-- after so many of its own packets were taken none is left
abbrev pub NoneIsLeft : NodeValue → Option Message → ℕ → Type 0
NoneIsLeft node waiting count = (take_own count node waiting).1 ≡ None

-- `settled` is the node that took its own packets until none is left: after three none is, and after however many none
-- is left, it is that node.
abbrev pub OwnPacketsEnd : Type 0
OwnPacketsEnd =
    (node : NodeValue) (waiting : Option Message)
    → NoneIsLeft node waiting 3
    × ((count : ℕ) → NoneIsLeft node waiting count → (take_own count node waiting).0 ≡ settled node waiting)
