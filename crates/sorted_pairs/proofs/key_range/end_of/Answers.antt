use Rattle.std.proofs.Common.{◌+◌, sym, ap, ◌∙◌, arith}
use Rattle.std.specs.Ordering.{is_le, nat_cmp}
use Rattle.std.proofs.lemmas.List.{length-drop}
use Rattle.std.proofs.lemmas.Cmp.{nat_cmp_total}
use Rattle.sorted_pairs.specs.Blocks.{begins}
use Rattle.sorted_pairs.proofs.BlockLemmas.{same_at}
use Rattle.sorted_pairs.proofs.KeyRangeLemmas.{above_end}
use Rattle.sorted_pairs.proofs.key_range.end_of.Goals as goal
use Rattle.sorted_pairs.proofs.key_range.end_of.Goals.{else-next-blocks-via-then-next-blocks+else-begins_upto}
use Rattle.sorted_pairs.proofs.key_range.end_of.Goals.{else-next-blocks-via-else-next-blocks}

pub returns-else-next-blocks-clause-above : goal.returns-else-next-blocks-clause-above
returns-else-next-blocks-clause-above g c =
    let blocks = c.args.blocks.now in
    let next = c.args.start + 1 in
    let first = c.args.first in
    above_end nat_cmp nat_cmp_total first (λ b. b.items) blocks c.requires.ascending c.requires.filled next
    (omega arith) (λ d some. elim c.else-next-blocks.branch [
      | else-next-blocks-via-then-next-blocks+else-begins_upto w ↦
          ap (λ b. begins (λ p. is_le (nat_cmp p.0 first)) b.items)
          (same_at blocks next d w.index-blocks-next.result w.if-next-blocks.true ∙ sym w.index-blocks-next.is)
          ∙ ap (begins (λ p. is_le (nat_cmp p.0 first))) (sym w.deref.ensures.value) ∙ sym w.begins_upto.ensures
          ∙ w.if-begins_upto.false
      | else-next-blocks-via-else-next-blocks w ↦
          absurd (omega (arith, some, length-drop next blocks, w.if-next-blocks.false))
    ])
