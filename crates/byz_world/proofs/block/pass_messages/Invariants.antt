use Rattle.std.proofs.Common.{◌≡◌, None}
use Rattle.std.specs.Vec.{vec_capacity}
use Rattle.byz_world.specs.inside.Blocks.{TookFirst}
use Rattle.byz_world.proofs.block.pass_messages.Given as goal

abbrev pub invariant-loop-one : goal.invariant-loop-one
invariant-loop-one l =
    TookFirst l.one-index None None l.sent l.fn.marks.items l.marks.items
    × (vec_capacity l.marks ≡ vec_capacity l.fn.marks)
