use Rattle.std.proofs.Common.{◌≡◌, ◌++◌, ap, ◌∙◌, arith}
use Rattle.std.proofs.lemmas.Grind.{common_steps}
use Rattle.byz_world.specs.inside.Blocks.{mark_of_row, noted_names, noted_messages}
use Rattle.byz_world.proofs.BlockNotes.{noted_none, noted_more, row_names-none, row_names-next, row_messages-none}
use Rattle.byz_world.proofs.BlockNotes.{row_messages-next, row_names-few, row_messages-few}
use Rattle.byz_world.proofs.block.note_message.Goals as goal

pub loop-index-init : goal.loop-index-init
loop-index-init c = record {
  order_is = noted_none _ _ _ _ (row_names-none _);
  sent_is = noted_none _ _ _ _ (row_messages-none _ _);
}

pub loop-index-preserved : goal.loop-index-preserved
loop-index-preserved c =
    let index = c.loop-index.index in
    let marks = mark_of_row c.args.marks.now c.args.block.0 c.args.block.1 in
    let name : c.unwrap-name.result ≡ index = grind (arith, common_steps) in
    let mark : c.mark_at-mark.result ≡ marks index =
    c.mark_at-mark.ensures ∙ ap (λ k. marks k) c.from.ensures in
    record {
      order_is = noted_more _ _ _ _ _ c.loop-index.invariant.order_is
          (c.note_mark.ensures.order
          ∙ (λ i. c.loop-index.order.items ++ noted_names (name i) (mark i)))
          c.note_mark.ensures.order_room (row_names-next marks index) (row_names-few marks _);
      sent_is = noted_more _ _ _ _ _ c.loop-index.invariant.sent_is
          (c.note_mark.ensures.sent
          ∙ (λ i. c.loop-index.sent.items ++ noted_messages (name i) c.args.message.now (mark i)))
          c.note_mark.ensures.sent_room (row_messages-next marks c.args.message.now index)
          (row_messages-few marks c.args.message.now _);
    }
