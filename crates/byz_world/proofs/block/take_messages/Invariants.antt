use Rattle.std.proofs.Common.{◌≡◌, Some}
use Rattle.std.specs.Vec.{vec_capacity}
use Rattle.byz_world.specs.inside.Blocks.{TookFirst}
use Rattle.byz_world.proofs.block.take_messages.Given as goal

abbrev pub invariant-loop-one : goal.invariant-loop-one
invariant-loop-one l =
    TookFirst l.one-index (Some l.fn.node) (Some l.node) l.sent l.fn.marks.items l.marks.items
    × (vec_capacity l.marks ≡ vec_capacity l.fn.marks)
