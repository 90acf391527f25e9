use Rattle.std.proofs.Common.{sym, subst, arith}
use Rattle.std.specs.List.Sorted.{IsStrictlySortedBy}
use Rattle.sorted_pairs.specs.Pairs.{number_cmp}
use Rattle.sorted_pairs.proofs.Exported.{block_ascends}
use Rattle.rbac_state.proofs.select.add_operations.Goals as goal

pub beginning_with-grants-requires : goal.beginning_with-grants-requires
beginning_with-grants-requires c = (
  omega arith,
  subst (IsStrictlySortedBy number_cmp) (sym c.deref.ensures.value)
      (block_ascends (λ b. b.items) c.blocks_of-alike.result.now c.loop-block.block-index c.block-item.result
      c.block-item.is
      c.loop-block-test.true number_cmp c.blocks_of-alike.ensures.ascending),
)
