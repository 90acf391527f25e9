use Rattle.std.specs.Vec.{vec_capacity}
use Rattle.byz_world.specs.inside.Blocks.{mark_of_row, row_names, row_messages}
use Rattle.byz_world.proofs.BlockNotes.{AreNoted}
use Rattle.byz_world.proofs.block.note_message.Given as goal

abbrev pub invariant-loop-index : goal.invariant-loop-index
invariant-loop-index l =
    let marks = mark_of_row l.marks l.count l.number in
    AreNoted l.fn.order.items l.order.items (vec_capacity l.fn.order) (vec_capacity l.order)
    (row_names marks l.index)
    l.fn.sent.items l.sent.items (vec_capacity l.fn.sent) (vec_capacity l.sent)
    (row_messages marks l.message l.index) l.index
