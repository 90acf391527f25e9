use Rattle.std.proofs.Common.{◌*◌, drop}
use Rattle.std.specs.Vec.{vec_capacity}
use Rattle.byz_world.specs.inside.Blocks.{block_names, block_messages}
use Rattle.byz_world.proofs.BlockNotes.{AreNoted}
use Rattle.byz_world.proofs.block.note_block.Given as goal

abbrev pub invariant-loop-number : goal.invariant-loop-number
invariant-loop-number l =
    let nodes = l.sizes.nodes in
    AreNoted l.fn.order.items l.order.items (vec_capacity l.fn.order) (vec_capacity l.order)
    (block_names l.marks l.count nodes l.number)
    l.fn.sent.items l.sent.items (vec_capacity l.fn.sent) (vec_capacity l.sent)
    (block_messages l.marks (drop l.first l.fn.sent.items) l.count nodes l.number) (l.number * nodes)
