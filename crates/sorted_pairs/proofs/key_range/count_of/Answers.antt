use Rattle.std.proofs.Common.{sym, subst, arith}
use Rattle.std.specs.List.Sorted.{IsStrictlySortedBy}
use Rattle.sorted_pairs.specs.Pairs.{number_cmp}
use Rattle.sorted_pairs.proofs.PlaceLemmas.{block_ascends}
use Rattle.sorted_pairs.proofs.key_range.count_of.Goals as goal

pub beginning_with-requires : goal.beginning_with-requires
beginning_with-requires g c = (
  omega arith,
  subst (IsStrictlySortedBy number_cmp) (sym c.deref.ensures.value)
      (block_ascends (λ b. b.items) c.args.range.now c.loop-block.block-index c.block-item.result c.block-item.is
      c.loop-block-test.true number_cmp c.requires.ascending),
)
