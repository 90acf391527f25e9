use Rattle.std.proofs.Common.{◌≡◌}
use Rattle.std.specs.Vec.{vec_capacity}
use Rattle.byz_world.proofs.BlockMembers.{AreGivenTo}
use Rattle.byz_world.proofs.block.give_to_each.Given as goal

abbrev pub invariant-loop-name : goal.invariant-loop-name
invariant-loop-name l =
    AreGivenTo l.fn.members.items l.members.items l.sent l.marks.items l.name
    × (vec_capacity l.marks ≡ vec_capacity l.fn.marks)
