use Rattle.std.proofs.Common.{◌≡◌, ◌+◌, ◌<◌, length, drop, List, Some, sym, ap, ◌∙◌, length-append, arith}
use Rattle.std.specs.Prelude.{slice_get}
use Rattle.byz_world.specs.inside.Blocks.{block_messages}
use Rattle.byz_world.specs.Pools.{Sent}
use Rattle.std.proofs.lemmas.Option.{slice_get-get_or}
use Rattle.byz_world.proofs.BlockNotes.{noted_none, noted_more, block_names-none, block_names-next}
use Rattle.byz_world.proofs.BlockNotes.{block_messages-none, block_messages-next, block_names-few, block_messages-few}
use Rattle.byz_world.proofs.BlockNotes.{dropped-at}
use Rattle.role_commands.proofs.Exported.{slice_get-front}
use Rattle.byz_world.proofs.block.note_block.Goals as goal

pub loop-number-init : goal.loop-number-init
loop-number-init c = record {
  order_is = noted_none _ _ _ _ (block_names-none _ _ _);
  sent_is = noted_none _ _ _ _ (block_messages-none _ _ _ _);
}

pub loop-number-preserved : goal.loop-number-preserved
loop-number-preserved c =
    let number = c.loop-number.number in
    let place = c.args.first + number in
    let sent = c.args.sent.now.items in
    let noted : List Sent = block_messages c.args.marks.now (drop c.args.first sent) c.args.count
    c.args.sizes.now.nodes number in
    let within : place < length sent = omega (arith, c.requires.within, c.loop-number-test.true) in
    let stays : slice_get c.loop-number.sent.items place ≡ slice_get sent place =
    ap (λ xs. slice_get xs place) c.loop-number.invariant.sent_is.items ∙ slice_get-front sent _ place within in
    let long : place < length c.loop-number.sent.items =
    omega (arith, within, ap length c.loop-number.invariant.sent_is.items, length-append sent noted) in
    let there : slice_get c.loop-number.sent.items place ≡ Some c.index.result.now =
    slice_get-get_or c.loop-number.sent.items place c.index.result.now long ∙ ap Some (sym c.index.ensures) in
    let at : slice_get (drop c.args.first sent) number ≡ Some c.index.result.now =
    dropped-at c.args.first sent number ∙ sym stays ∙ there in
    record {
      order_is = noted_more _ _ _ _ _ c.loop-number.invariant.order_is c.note_message.ensures.order
          c.note_message.ensures.order_room
          (block_names-next c.args.marks.now c.args.count c.args.sizes.now.nodes number)
          (block_names-few c.args.marks.now c.args.count c.args.sizes.now.nodes _);
      sent_is = noted_more _ _ _ _ _ c.loop-number.invariant.sent_is c.note_message.ensures.sent
          c.note_message.ensures.sent_room
          (block_messages-next c.args.marks.now (drop c.args.first sent) c.args.count c.args.sizes.now.nodes number
          c.index.result.now at)
          (block_messages-few c.args.marks.now (drop c.args.first sent) c.args.count c.args.sizes.now.nodes _);
    }
