-- The laws of the sizes.
use Rattle.std.proofs.Common.{◌*◌, ◌<◌, arith}
use Rattle.quorum_sizes.specs.Laws.{CorrectAreEnough}

pub correct_are_enough : CorrectAreEnough
correct_are_enough s sizes =
    let few : 3 * s.liars < s.nodes = sizes.1 in (omega arith, omega arith)
