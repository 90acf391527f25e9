use Rattle.std.proofs.Common.{sym, ◌∙◌, arith}
use Rattle.sorted_pairs.proofs.PlaceLemmas.{tidied_empty, tidied_full, tidied_first}
use Rattle.sorted_pairs.proofs.blocks.drop_if_empty.Goals as goal
use Rattle.sorted_pairs.proofs.blocks.drop_if_empty.Goals.{else-place-gt0-via-then-place-gt0+else-is_empty}
use Rattle.sorted_pairs.proofs.blocks.drop_if_empty.Goals.{else-place-gt0-via-else-place-gt0}

pub returns-then-is_empty : goal.returns-then-is_empty
returns-then-is_empty g c =
    c.remove-empty.ensures.items
    ∙ tidied_empty c.args.blocks.now.items c.index.result.now c.args.place c.index.ensures
    (omega (arith, c.args.blocks.now.ok.0)) c.if-place-gt0.true (sym c.is_empty.ensures ∙ c.if-is_empty.true)

pub returns-else-place-gt0 : goal.returns-else-place-gt0
returns-else-place-gt0 g c =
    elim c.else-place-gt0.branch [
      | else-place-gt0-via-then-place-gt0+else-is_empty w ↦
          tidied_full c.args.blocks.now.items w.index.result.now c.args.place w.index.ensures
          (omega (arith, c.args.blocks.now.ok.0)) (sym w.is_empty.ensures ∙ w.if-is_empty.false)
      | else-place-gt0-via-else-place-gt0 w ↦
          tidied_first c.args.blocks.now.items c.args.place w.if-place-gt0.false
    ]
